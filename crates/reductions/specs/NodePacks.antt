-- The pack of a node: its own contribution, the parts, and whether it waits.
use Rattle.std.specs.Prelude.{◌≡◌, ℕ, ◌+◌, ◌*◌, ◌≤◌, ◌<◌, ◌^◌, List, [], ◌∷◌, ◌++◌, length, flat_map, All, Bool, true, not, nat_lt, Option, None, Some, IfSome, Result}
use Rattle.std.proofs.Common.{arith, length-append, lit≤, refl}
use Rattle.std.proofs.lemmas.Bool.Decides.{nat_tests}
use Rattle.std.proofs.lemmas.List.Elements.{All-cons, All-head, All-nil, All-tail}
use Rattle.chare_index.specs.declared.limits.TheConstants.Limits.{STATE_BYTES}
use Rattle.pup_pack.specs.declared.error.PupError.{PupError}
use Rattle.pup_pack.specs.Lists.{IsCounted, pack_list, unpack_list}
use Rattle.pup_pack.specs.Numbers.{pack_u8, unpack_u8}
use Rattle.pup_pack.specs.Options.{pack_option, unpack_option}
use Rattle.pup_pack.specs.Packing.{RoundTrip}
use Rattle.pup_pack.specs.Pairs.{unpack_pair}
use Rattle.pup_pack.specs.Structs.{judged, made}
use Rattle.pup_pack.specs.Trips.{bool_trips, judged_trips, list_trips, option_trips, pair_trips, struct_trips, u8_trips}
use Rattle.pup_pack.specs.Truths.{pack_bool, unpack_bool}
use Rattle.reductions.specs.Combining.{VALUE_BYTES}
use Rattle.reductions.specs.Nodes.{NodeView}
use Rattle.reductions.specs.Reactions.{NODE_BYTES}
use Rattle.reductions.specs.Stepping.{ReducingView}
use Rattle.reductions.specs.Trees.{SLOTS}

-- the fields, as they are packed
abbrev pub NodeParts : Type 0 → Type 0
NodeParts V = Option V × (List (ℕ × V) × Bool)

abbrev pub parts_of : {V : Type 0} → NodeView V → NodeParts V
parts_of node = (node.own, (node.parts, node.waits))

abbrev pub of_parts : {V : Type 0} → NodeParts V → NodeView V
of_parts x = record { own = x.0; parts = x.1.0; waits = x.1.1 }

-- it has no more parts than slots
abbrev pub is_node : {V : Type 0} → NodeView V → Bool
is_node node = not (nat_lt SLOTS (length node.parts))

abbrev pub part_fits : {V : Type 0} → (V → Type 0) → ℕ × V → Type 0
part_fits fits x = (x.0 < 2 ^ 8) × fits x.1

abbrev pub part_counted : {V : Type 0} → (V → Type 0) → ℕ × V → Type 0
part_counted counted x = Unit {0} × counted x.1

abbrev pub part_pack : {V : Type 0} → (V → List ℕ) → ℕ × V → List ℕ
part_pack pack x = pack_u8 x.0 ++ pack x.1

abbrev pub node_fits : {V : Type 0} → (V → Type 0) → NodeView V → Type 0
node_fits fits node = IfSome node.own fits × (All (part_fits fits) node.parts × Unit {0})

abbrev pub node_counted : {V : Type 0} → (V → Type 0) → NodeView V → Type 0
node_counted counted node = IfSome node.own counted × ((IsCounted node.parts × All (part_counted counted) node.parts) × Unit {0})

abbrev pub node_pack : {V : Type 0} → (V → List ℕ) → NodeView V → List ℕ
node_pack pack node = pack_option pack node.own ++ (pack_list (part_pack pack) node.parts ++ pack_bool node.waits)

abbrev pub node_unpack : {V : Type 0} → (List ℕ → Result (V × ℕ) PupError) → List ℕ → Result (NodeView V × ℕ) PupError
node_unpack unpack bytes = judged is_node (made of_parts (unpack_pair (unpack_option unpack) (unpack_pair (unpack_list (unpack_pair unpack_u8 unpack)) unpack_bool) bytes))

-- the law of the pack of a node, by that of a value
pub node_trips : {V : Type 0} {fits counted : V → Type 0} {pack : V → List ℕ} {unpack : List ℕ → Result (V × ℕ) PupError} → RoundTrip fits counted pack unpack
    → RoundTrip (λ node. node_fits fits node × (is_node node ≡ true)) (node_counted counted) (node_pack pack) (node_unpack unpack)
node_trips value = judged_trips is_node (struct_trips parts_of of_parts (λ _. refl)
    (pair_trips (option_trips value) (pair_trips (list_trips (pair_trips u8_trips value)) bool_trips)))

module _ {V : Type 0} (fits counted : V → Type 0) (pack : V → List ℕ) (small : (v : V) → fits v → counted v × (length (pack v) ≤ VALUE_BYTES)) where
  parts_counted : (parts : List (ℕ × V)) → All (part_fits fits) parts → All (part_counted counted) parts
  parts_counted [] fit = All-nil (part_counted counted)
  parts_counted (x ∷ xs) fit =
      All-cons (part_counted counted) x xs (tt, (small x.1 (All-head (part_fits fits) x xs fit).1).0) (parts_counted xs (All-tail (part_fits fits) x xs fit))

  parts_small : (parts : List (ℕ × V)) → All (part_fits fits) parts → length (flat_map (part_pack pack) parts) ≤ 33 * length parts
  parts_small [] fit = lit≤ tt
  parts_small (x ∷ xs) fit =
      let head : length (pack x.1) ≤ VALUE_BYTES = (small x.1 (All-head (part_fits fits) x xs fit).1).1 in
      let tail : length (flat_map (part_pack pack) xs) ≤ 33 * length xs = parts_small xs (All-tail (part_fits fits) x xs fit) in
      omega (arith, length-append (part_pack pack x) (flat_map (part_pack pack) xs), head, tail)

  own_counted : (own : Option V) → IfSome own fits → IfSome own counted
  own_counted None fit = tt
  own_counted (Some v) fit = (small v fit).0

  own_small : (own : Option V) → IfSome own fits → length (pack_option pack own) ≤ 33
  own_small None fit = lit≤ tt
  own_small (Some v) fit = let few : length (pack v) ≤ VALUE_BYTES = (small v fit).1 in omega (arith, few)

  few_parts : (node : NodeView V) → is_node node ≡ true → length node.parts ≤ 16
  few_parts node right = grind (arith, nat_tests, right)

  pub node_packs : (node : NodeView V) → node_fits fits node × (is_node node ≡ true) → node_counted counted node × (length (node_pack pack node) ≤ NODE_BYTES)
  node_packs node fit =
      let few : length node.parts ≤ 16 = few_parts node fit.1 in
      let own : length (pack_option pack node.own) ≤ 33 = own_small node.own fit.0.0 in
      let parts : length (flat_map (part_pack pack) node.parts) ≤ 33 * length node.parts = parts_small node.parts fit.0.1.0 in (
        (own_counted node.own fit.0.0, ((omega (arith, few), parts_counted node.parts fit.0.1.0), tt)),
        omega (
          arith,
          few,
          own,
          parts,
          length-append (pack_option pack node.own) (pack_list (part_pack pack) node.parts ++ pack_bool node.waits),
          length-append (pack_list (part_pack pack) node.parts) (pack_bool node.waits),
        ),
      )

  -- an element packs where its chare does and leaves room for the node
  pub reducing_packs : {S : Type 0} (chare_fits chare_counted : S → Type 0) (chare_pack : S → List ℕ)
      → ((s : S) → chare_fits s → chare_counted s × (length (chare_pack s) + NODE_BYTES ≤ STATE_BYTES))
      → (r : ReducingView S V) → chare_fits r.chare × (node_fits fits r.node × (is_node r.node ≡ true))
      → (chare_counted r.chare × node_counted counted r.node) × (length (chare_pack r.chare ++ node_pack pack r.node) ≤ STATE_BYTES)
  reducing_packs chare_fits chare_counted chare_pack law r fit =
      let chare : chare_counted r.chare × (length (chare_pack r.chare) + NODE_BYTES ≤ STATE_BYTES) = law r.chare fit.0 in
      let node : node_counted counted r.node × (length (node_pack pack r.node) ≤ NODE_BYTES) = node_packs r.node fit.1 in
      ((chare.0, node.0), omega (arith, length-append (chare_pack r.chare) (node_pack pack r.node), chare.1, node.1))
