-- How calls on names end, by their parts.
--     IsOfTable, first_is_of_table      none of the faults of a table is lack of memory
--     failed_as, refused_as      what the tree refuses is refused as its first fault says
--     unless_none      where it has no fault the call goes on
--     done_as      a call ends so that comes to the same
--     place_done, place_failed      it goes on at the last name of a path, or there is none
--     lacks_done      memory runs out in it
--     found_comes      it goes on at the node that a path leads to
use Rattle.std.proofs.Common.{◌≡◌, ℕ, Bool, true, false, cond, List, [], ◌∷◌, Option, None, Some, Result, Ok, Err, refl, sym, ap, subst, ◌∙◌}
use Rattle.std.specs.Prelude.{⊤}
use Rattle.std.specs.List.{AllByRecursion}
use Rattle.abi_base.specs.declared.errno.Errno.{Errno}
use Rattle.file_calls.specs.Walks.{node_at, node_or_refusal}
use Rattle.file_calls.specs.declared.paths.PathFault.{PathFault}
use Rattle.file_calls.specs.declared.paths.PathFault.TheVariants as path_fault
use Rattle.kernel_model.specs.Families.FilePaths.{Walked, Ends, Fails, LeadsOutside}
use Rattle.kernel_model.specs.Families.LastNames.{LastName, name_at}
use Rattle.kernel_model.specs.Families.NameMeaning.{NameOutcome, Refuses, LeadsOut, Changes, at_name, unless_fault}
use Rattle.kernel_model.specs.Families.NameMoving.{at_found, at_found_end}
use Rattle.kernel_model.specs.Families.TreeUpdates.{Change}
use Rattle.entry_calls.specs.Done.{FailsAs, IsDone, failure_of}
use Rattle.entry_calls.specs.Places.{last_of_place}
use Rattle.entry_calls.specs.declared.failure.Failure.{Failure}
use Rattle.entry_calls.specs.declared.failure.Failure.TheVariants.{Refused}
use Rattle.entry_calls.specs.declared.failure.Failure.TheVariants as failures
use Rattle.entry_calls.specs.declared.places.NamePlace.{NamePlace}
use Rattle.path_lookup.specs.declared.ends.End.{End}
use Rattle.path_lookup.specs.declared.ends.End.TheVariants as end
use Rattle.tree_model.specs.Changes.{Faults, IsRefusal, first_fault}
use Rattle.tree_model.specs.Tree.{Tree}
use Rattle.tree_model.specs.declared.fault.TreeFault.{TreeFault}
use Rattle.tree_model.specs.declared.fault.TreeFault.TheVariants.{Absent, Taken, NotDirectory, IsDirectory, NotEmpty, Below, Links, TooLarge, NoMemory}

-- ---- faults of the tree

-- the fault may stand in a table: it is not lack of memory
abbrev pub IsOfTable : TreeFault → Type 0
IsOfTable NoMemory = ⊥
IsOfTable fault = ⊤

-- so may the first, where there is one
abbrev pub IsFirstOfTable : Option TreeFault → Type 0
IsFirstOfTable None = ⊤
IsFirstOfTable (Some fault) = IsOfTable fault

abbrev pub AreOfTable : Faults → Type 0
AreOfTable faults = AllByRecursion (λ (f : Bool × TreeFault). IsOfTable f.1) faults

first_by : (b : Bool) (fault : TreeFault) (rest : Option TreeFault) → IsOfTable fault → IsFirstOfTable rest → IsFirstOfTable (cond b (Some fault) rest)
first_by true fault rest here there = here
first_by false fault rest here there = there

pub first_is_of_table : (faults : Faults) → AreOfTable faults → IsFirstOfTable (first_fault faults)
first_is_of_table [] tabled = tt
first_is_of_table (f ∷ faults) tabled = first_by f.0 f.1 (first_fault faults) tabled.0 (first_is_of_table faults tabled.1)

-- faults that stand in a table in one case alone
pub either_of_table : (b : Bool) (faults : Faults) → AreOfTable faults → AreOfTable (cond b [] faults)
either_of_table true faults tabled = tt
either_of_table false faults tabled = tabled

refused_by : (errno_of : TreeFault → Errno) (fault : TreeFault) → IsOfTable fault → FailsAs (Refuses (errno_of fault)) (failure_of errno_of fault)
refused_by errno_of Absent tabled = refl
refused_by errno_of Taken tabled = refl
refused_by errno_of NotDirectory tabled = refl
refused_by errno_of IsDirectory tabled = refl
refused_by errno_of NotEmpty tabled = refl
refused_by errno_of Below tabled = refl
refused_by errno_of Links tabled = refl
refused_by errno_of TooLarge tabled = refl
refused_by errno_of NoMemory tabled = absurd tabled

pub failed_as : (errno_of : TreeFault → Errno) (first : Option TreeFault) (change : Change) (fault : TreeFault) (failure : Failure)
    → IsFirstOfTable first → IsRefusal first fault → failure ≡ failure_of errno_of fault
    → FailsAs (unless_fault errno_of first (Changes change)) failure
failed_as errno_of None change fault failure tabled is fails =
    subst (FailsAs (Changes change)) (sym (fails ∙ ap (failure_of errno_of) is)) (change, refl)
failed_as errno_of (Some first) change fault failure tabled is fails =
    subst (FailsAs (Refuses (errno_of first))) (sym (fails ∙ ap (failure_of errno_of) is)) (refused_by errno_of first tabled)

pub refused_as : (errno_of : TreeFault → Errno) (first : Option TreeFault) (comes : NameOutcome) (fault : TreeFault) (failure : Failure)
    → IsFirstOfTable first → Some fault ≡ first → failure ≡ failure_of errno_of fault → FailsAs (unless_fault errno_of first comes) failure
refused_as errno_of None comes fault failure tabled is fails = cc
refused_as errno_of (Some first) comes fault failure tabled is fails =
    let same : fault ≡ first = cc in
    subst (FailsAs (Refuses (errno_of first))) (sym (fails ∙ ap (failure_of errno_of) same)) (refused_by errno_of first tabled)

pub unless_none : (errno_of : TreeFault → Errno) (first : Option TreeFault) (comes : NameOutcome) → first ≡ None → unless_fault errno_of first comes ≡ comes
unless_none errno_of first comes is = ap (λ o. unless_fault errno_of o comes) is

-- ---- what a call comes to by its parts

module _ (old new : Tree) (result : Result (Option ℕ) Failure) where
  pub done_as : (comes other : NameOutcome) → comes ≡ other → IsDone comes old new result → IsDone other old new result
  done_as comes other is done = subst (λ c. IsDone c old new result) is done

  -- it goes on at the last name of a path
  pub place_done : (goes : ℕ → List ℕ → NameOutcome) (path name : List ℕ) (last : LastName) (place : NamePlace) → last_of_place path (Ok place) ≡ last
      → name ≡ name_at path place.from place.len → IsDone (goes place.dir name) old new result → IsDone (at_name goes last) old new result
  place_done goes path name last place is named done =
      done_as (goes place.dir name) (at_name goes last) (ap (goes place.dir) named ∙ ap (at_name goes) is) done

-- its path leads to no last name
pub place_failed : (t : Tree) (result : Result (Option ℕ) Failure) (goes : ℕ → List ℕ → NameOutcome) (path : List ℕ) (last : LastName) (failure : Failure)
    (why : PathFault) → last_of_place path (Err why) ≡ last → result ≡ Err failure → failure ≡ Refused why → IsDone (at_name goes last) t t result
place_failed t result goes path last failure (path_fault.Errno errno) is fails refused =
    subst (IsDone (at_name goes last) t t) (sym (fails ∙ ap (λ f. Err f) refused)) (sym (ap (at_name goes) is), refl)
place_failed t result goes path last failure (path_fault.Outside component) is fails refused =
    subst (IsDone (at_name goes last) t t) (sym (fails ∙ ap (λ f. Err f) refused)) (sym (ap (at_name goes) is), refl)

-- memory runs out where it would change the tree
pub lacks_done : (t : Tree) (result : Result (Option ℕ) Failure) (comes : NameOutcome) (change : Change) (failure : Failure)
    → comes ≡ Changes change → result ≡ Err failure → failure ≡ failures.NoMemory → IsDone comes t t result
lacks_done t result comes change failure is fails lacks =
    subst (IsDone comes t t) (sym (fails ∙ ap (λ f. Err f) lacks)) ((change, is), refl)

-- the node at which it goes on
abbrev coming : (ℕ → NameOutcome) → Result ℕ PathFault → NameOutcome
coming goes (Ok n) = goes n
coming goes (Err (path_fault.Errno errno)) = Refuses errno
coming goes (Err (path_fault.Outside component)) = LeadsOut component

end_comes : (goes : ℕ → NameOutcome) (end : End) → coming goes (node_at end) ≡ at_found_end goes end
end_comes goes (end.Found n) = refl
end_comes goes (end.Absent dir from len) = refl
end_comes goes (end.Last dir from len) = refl

walk_comes : (goes : ℕ → NameOutcome) (walked : Walked) → coming goes (node_or_refusal walked) ≡ at_found goes walked
walk_comes goes (Ends end) = end_comes goes end
walk_comes goes (Fails errno) = refl
walk_comes goes (LeadsOutside component) = refl

pub found_comes : (goes : ℕ → NameOutcome) (walked : Walked) (n : ℕ) → Ok n ≡ node_or_refusal walked → goes n ≡ at_found goes walked
found_comes goes walked n is = ap (coming goes) is ∙ walk_comes goes walked
