-- Files that are requested, one after another.
use Rattle.std.proofs.Common.{◌≡◌, ◌⊎◌, inl, inr, ℕ, ◌+◌, ◌<◌, ◌≤◌, List, [], ◌∷◌, ◌++◌, length, get_or, take, drop, Option, None, Some, Result, Ok, Err, sym, ap, subst, ◌∙◌, append-nil, append_assoc}
use Rattle.std.specs.Result.{result_err}
use Rattle.std.proofs.lemmas.List.{drop_more, map-append, take_all, take_more, take-append-drop}
use Rattle.lb_snapshot.specs.Measured.{Taken}
use Rattle.workload_run.specs.Dumping.{AsksFor, AsksInTurn, AsksRest, MayFail, StopsAt, file_name, file_names}
use Rattle.workload_run.specs.declared.dumps.NotWritten.{NotWritten}
use Rattle.workload_run.specs.declared.round_dump.DumpFormat.{DumpFormat}

-- no file was requested yet
pub asked_none : (names : Option (List (List ℕ))) → AsksFor names names []
asked_none None = tt
asked_none (Some names) = sym (append-nil names)

-- files were requested for all rounds, where they were for as many as there are
pub asked_all : {D : Type 0} (prefix : List ℕ) (rounds : List (Taken × D)) (i : ℕ) (old new : Option (List (List ℕ))) → length rounds ≤ i
    → AsksFor old new (file_names prefix (take i rounds)) → AsksFor old new (file_names prefix rounds)
asked_all prefix rounds i old new past asked = subst (λ some. AsksFor old new (file_names prefix some)) (take_all i rounds past) asked

-- some, and then others
asked_more : (old mid new : Option (List (List ℕ))) (some others : List (List ℕ)) → AsksFor old mid some → AsksFor mid new others → AsksFor old new (some ++ others)
asked_more None mid new some others first second = tt
asked_more (Some names) (Some names') (Some names'') some others first second = second ∙ ap (λ ns. ns ++ others) first ∙ append_assoc names some others
asked_more (Some names) (Some names') None some others first second = second
asked_more (Some names) None new some others first second = absurd first

-- after the first i rounds comes this one
module _ {D : Type 0} (prefix : List ℕ) (rounds : List (Taken × D)) (i : ℕ) (kept d : Taken × D) (below : i < length rounds) (is : kept ≡ get_or rounds i d) where
  one_more : take (i + 1) rounds ≡ take i rounds ++ kept ∷ []
  one_more = rw is (take_more rounds i d below)

  in_turn : rounds ≡ take i rounds ++ kept ∷ drop (i + 1) rounds
  in_turn = rw is (sym (take-append-drop i rounds) ∙ ap (λ rest. take i rounds ++ rest) (drop_more rounds i d below))

  both : (old mid new : Option (List (List ℕ))) → AsksFor old mid (file_names prefix (take i rounds))
      → AsksFor mid new (file_name prefix kept.0.step ∷ []) → AsksFor old new (file_names prefix (take i rounds ++ kept ∷ []))
  both old mid new so_far asked = rw map-append (asked_more old mid new _ _ so_far asked)

  -- its dump was written
  pub asked_next : (old mid new : Option (List (List ℕ))) → AsksFor old mid (file_names prefix (take i rounds))
      → AsksFor mid new (file_name prefix kept.0.step ∷ []) → AsksFor old new (file_names prefix (take (i + 1) rounds))
  asked_next old mid new so_far asked = rw one_more (both old mid new so_far asked)

  -- it was not
  pub stopped_at : (old mid new : Option (List (List ℕ))) (format : DumpFormat) (dump : NotWritten) → dump.round ≡ kept.0.step → MayFail dump.fault format kept.0
      → AsksFor old mid (file_names prefix (take i rounds)) → (AsksFor mid new (file_name prefix kept.0.step ∷ []) ⊎ (new ≡ mid)) → StopsAt format prefix rounds old new dump
  stopped_at old mid new format dump round fault so_far (inl asked) =
      record { written = take i rounds; stopped = kept; rest = drop (i + 1) rounds; split = in_turn; round = round; fault = fault; asked = inr (both old mid new so_far asked) }
  stopped_at old mid new format dump round fault so_far (inr none) =
      record { written = take i rounds; stopped = kept; rest = drop (i + 1) rounds; split = in_turn; round = round; fault = fault; asked = inl (rw none so_far) }

-- nothing was requested where no round was left
pub rest_none : {D : Type 0} (format : DumpFormat) (prefix : Option (List ℕ)) (failed : Option NotWritten) (rounds : List (Taken × D))
    (names : Option (List (List ℕ))) (p : List ℕ) → prefix ≡ Some p → failed ≡ None → rounds ≡ [] → AsksRest format prefix failed rounds names names failed
rest_none format prefix failed rounds names p given none nothing = rw (given, none, nothing) (asked_none names)

-- what was requested for the rounds that were left
pub rest_asked : {D : Type 0} (format : DumpFormat) (prefix : Option (List ℕ)) (failed now : Option NotWritten) (rounds : List (Taken × D))
    (old new : Option (List (List ℕ))) (p : List ℕ) (result : Result (Unit {0}) NotWritten) → prefix ≡ Some p → failed ≡ None → now ≡ result_err result
    → AsksInTurn format p rounds old new result → AsksRest format prefix failed rounds old new now
rest_asked format prefix failed now rounds old new p (Ok _) given none is asked = rw (given, none, is) asked
rest_asked format prefix failed now rounds old new p (Err dump) given none is asked = rw (given, none, is) asked
