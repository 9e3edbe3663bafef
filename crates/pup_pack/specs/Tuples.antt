-- Tuples of three to six parts, and the pairs within pairs as which they pack.

abbrev pub three_of : {X Y Z : Type 0} → X × (Y × Z) → X × Y × Z
three_of s = (s.0, s.1.0, s.1.1)

abbrev pub pairs_of_three : {X Y Z : Type 0} → X × Y × Z → X × (Y × Z)
pairs_of_three s = (s.0, (s.1, s.2))

abbrev pub four_of : {W X Y Z : Type 0} → W × (X × (Y × Z)) → W × X × Y × Z
four_of s = (s.0, s.1.0, s.1.1.0, s.1.1.1)

abbrev pub pairs_of_four : {W X Y Z : Type 0} → W × X × Y × Z → W × (X × (Y × Z))
pairs_of_four s = (s.0, (s.1, (s.2, s.3)))

abbrev pub five_of : {V W X Y Z : Type 0} → V × (W × (X × (Y × Z))) → V × W × X × Y × Z
five_of s = (s.0, s.1.0, s.1.1.0, s.1.1.1.0, s.1.1.1.1)

abbrev pub pairs_of_five : {V W X Y Z : Type 0} → V × W × X × Y × Z → V × (W × (X × (Y × Z)))
pairs_of_five s = (s.0, (s.1, (s.2, (s.3, s.4))))

abbrev pub six_of : {U V W X Y Z : Type 0} → U × (V × (W × (X × (Y × Z)))) → U × V × W × X × Y × Z
six_of s = (s.0, s.1.0, s.1.1.0, s.1.1.1.0, s.1.1.1.1.0, s.1.1.1.1.1)

abbrev pub pairs_of_six : {U V W X Y Z : Type 0} → U × V × W × X × Y × Z → U × (V × (W × (X × (Y × Z))))
pairs_of_six s = (s.0, (s.1, (s.2, (s.3, (s.4, s.5)))))
