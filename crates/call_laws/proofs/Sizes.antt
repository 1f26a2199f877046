-- What calls make of a file's size, and of the times of a node.
use Rattle.std.proofs.Common.{◌≡◌, ◌≢◌, inl, inr, ℕ, ◌+◌, ◌-◌, ◌<◌, ◌≤◌, ◌==◌, Bool, false, not, cond, List, ◌++◌, length, take, drop, replicate, max, Option, Some, refl, sym, ap, ◌∙◌, arith}
use Rattle.std.proofs.lemmas.Bool.{le-ltb}
use Rattle.std.proofs.lemmas.Bool.Decides.{eqb_tells, leb_tells}
use Rattle.std.proofs.lemmas.List.{append-nil, length-append, length-replicate, length-take, take_all, take-append-drop}
use Rattle.std.specs.FinMap.{get}
use Rattle.std.specs.Prelude.{bit_and}
use Rattle.abi_base.specs.declared.errno.Errno.TheVariants.{Badf, Fbig}
use Rattle.abi_structures.specs.declared.structures.FileStat.{FileStat}
use Rattle.abi_types.specs.declared.call.Call.{Call}
use Rattle.abi_types.specs.declared.call.Call.TheVariants.{FileAllocate, FileStatFput, FileStatPut}
use Rattle.abi_types.specs.declared.constants.Constants.{Constants}
use Rattle.abi_types.specs.declared.node.Node.{Node}
use Rattle.abi_types.specs.declared.node.NodeKind.TheVariants as kind
use Rattle.abi_types.specs.declared.node.Times.{Times}
use Rattle.abi_types.specs.declared.open_kind.OpenKind.{OpenKind}
use Rattle.abi_types.specs.declared.open_kind.OpenKind.TheVariants.{File}
use Rattle.abi_types.specs.declared.who.Who.{Who}
use Rattle.maps.specs.Maps.{get-insert-same}
use Rattle.tree_model.specs.Changes.{bytes_in, bytes_of, bytes_of_kind, put_node, with_bytes, with_bytes_in, with_times_in}
use Rattle.tree_model.specs.Files.{resized}
use Rattle.kernel_model.specs.Calls.{meaning_of}
use Rattle.kernel_model.specs.Families.ClockCalls.{real_time}
use Rattle.kernel_model.specs.Families.FileChanges.{allocate, becomes, becomes_in, chosen, modified, put_found, put_open, put_stat, put_times, retimed, retimed_in, sized, times_put, unless_large}
use Rattle.kernel_model.specs.Families.FileMeaning.{open_of}
use Rattle.kernel_model.specs.Families.FilePaths.{at_walked}
use Rattle.kernel_model.specs.Outcome.{Outcome, replies}
use Rattle.kernel_model.specs.Reply.{refused}
use Rattle.kernel_model.specs.State.{State, Table, Tree, put_all, tree_of}
use Rattle.kernel_model.specs.Step.{tick, unless, unreleased}
use Rattle.kernel_model.specs.View.{whole}
use Rattle.kernel_model.specs.Waits.{waiting, waits_if}
use Rattle.kernel_model.proofs.Outcomes.{outcome_of_table}
use Rattle.call_laws.specs.FileLaws.{IsAllowed}
use Rattle.call_laws.specs.SizeLaws.{AreChosen, IsChosen, IsOfFile, IsSized, SizesAndTimesAreSet, resized_node, with_node_later}
use Rattle.call_laws.proofs.FilesTold.{leads}
use Rattle.call_laws.proofs.NameChanges.{opens_directory}

-- ---- sizes

-- zeros up to a size stand behind what is there
front_padded : (was : List ℕ) (size : ℕ) → resized was size ≡ take size was ++ replicate (size - length was) 0
front_padded was size =
    elim (leb_tells size (length was)) [
      | inl within ↦ (
          let few : size ≤ length was = within.1 in
          let none : size - length was ≡ 0 = omega (arith, few) in
          ap (λ n. take size (was ++ replicate n 0)) none ∙ ap (take size) (append-nil was) ∙ sym (append-nil (take size was))
          ∙ ap (λ n. take size was ++ replicate n 0) (sym none))
      | inr beyond ↦ (
          let far : length was < size = beyond.1 in
          let zeros : List ℕ = replicate (size - length was) 0 in
          let count : length (was ++ zeros) ≡ length was + length zeros = length-append was zeros in
          let more : length zeros ≡ size - length was = length-replicate (size - length was) 0 in
          take_all size (was ++ zeros) (omega (arith, count, more, far))
          ∙ ap (λ front. front ++ zeros) (sym (take_all size was (omega (arith, far)))))
    ]

is_sized : (was : List ℕ) (size : ℕ) → IsSized size was (resized was size)
is_sized was size = record {
  front = take size was;
  gone = drop size was;
  before = sym (take-append-drop size was);
  count = length-take size was;
  after = front_padded was size;
}

module _ (t : Tree) (n now : ℕ) (was : Node) (there : get t.nodes n ≡ Some was) where
  pub times_set : (new : Times → Times) → get (retimed t n new).nodes n ≡ Some (record was { times = new was.times })
  times_set new =
      ap (λ o. get (retimed_in t n new o).nodes n) there ∙ ap (λ o. get (with_times_in t n (new was.times) o).nodes n) there
      ∙ get-insert-same t.nodes n (record was { times = new was.times })

  bytes_set : (bytes : List ℕ) → get (retimed (with_bytes t n bytes) n (modified now)).nodes n ≡ Some (resized_node was bytes now)
  bytes_set bytes =
      let new : Node = record was { kind = kind.File bytes } in
      let u : Tree = put_node t n new in
      ap (λ o. get (retimed (with_bytes_in t n bytes o) n (modified now)).nodes n) there
      ∙ ap (λ o. get (retimed_in u n (modified now) o).nodes n) (get-insert-same t.nodes n new)
      ∙ ap (λ o. get (with_times_in u n (modified now was.times) o).nodes n) (get-insert-same t.nodes n new)
      ∙ get-insert-same u.nodes n (resized_node was bytes now)

  module _ (bytes : List ℕ) (is : was.kind ≡ kind.File bytes) where
    bytes_are : bytes_of t n ≡ bytes
    bytes_are = ap bytes_in there ∙ ap bytes_of_kind is

    -- the tree once the size is set of a file with these bytes
    abbrev sized_by : ℕ → List ℕ → Bool → Tree
    sized_by size old same = cond same t (retimed (with_bytes t n (resized old size)) n (modified now))

    size_set : (size : ℕ) → size ≢ length bytes → get (sized t n now size).nodes n ≡ Some (resized_node was (resized bytes size) now)
    size_set size differs =
        ap (λ old. get (sized_by size old (length old == size)).nodes n) bytes_are
        ∙ elim (eqb_tells (length bytes) size) [
          | inl same ↦ absurd (differs (sym same.1))
          | inr other ↦ ap (λ b. get (sized_by size bytes b).nodes n) other.0 ∙ bytes_set (resized bytes size)
        ]

    size_kept : get (sized t n now (length bytes)).nodes n ≡ Some was
    size_kept =
        ap (λ old. get (sized_by (length bytes) old (length old == length bytes)).nodes n) bytes_are
        ∙ elim (eqb_tells (length bytes) (length bytes)) [
          | inl same ↦ ap (λ b. get (sized_by (length bytes) bytes b).nodes n) same.0 ∙ there
          | inr other ↦ absurd (other.1 refl)
        ]

-- ---- times

is_set : (k : ℕ) → k ≢ 0 → (k == 0) ≡ false
is_set k set = elim (eqb_tells k 0) [ inl none ↦ absurd (set none.1) | inr some ↦ some.0 ]

is_chosen : (flags given_bit now_bit given now was : ℕ) → IsChosen flags given_bit now_bit given now was (chosen flags given_bit now_bit given now was)
is_chosen flags given_bit now_bit given now was = record {
  given = λ set. ap (λ b. cond (not b) given (cond (not (bit_and flags now_bit == 0)) now was)) (is_set (bit_and flags given_bit) set);
  set_now = λ none set.
      ap (λ k. cond (not (k == 0)) given (cond (not (bit_and flags now_bit == 0)) now was)) none
      ∙ ap (λ b. cond (not b) now was) (is_set (bit_and flags now_bit) set);
  stays = λ none other.
      ap (λ k. cond (not (k == 0)) given (cond (not (bit_and flags now_bit == 0)) now was)) none ∙ ap (λ k. cond (not (k == 0)) now was) other;
}

are_chosen : (flags : ℕ) (stat : FileStat) (now : ℕ) (was : Times) → AreChosen flags stat now was (times_put flags stat now was)
are_chosen flags stat now was = record {
  accessed = is_chosen flags 1 2 stat.atim now was.atim;
  modified = is_chosen flags 4 8 stat.mtim now was.mtim;
  changed = refl;
}

put_times_is : (t : Tree) (n now flags : ℕ) (stat : FileStat) (was : Node) → get t.nodes n ≡ Some was → bit_and flags 15 ≢ 0
    → get (put_times flags stat now t n).nodes n ≡ Some (record was { times = times_put flags stat now was.times })
put_times_is t n now flags stat was there some =
    elim (eqb_tells (bit_and flags 15) 0) [
      | inl none ↦ absurd (some none.1)
      | inr set ↦ ap (λ b. get (cond b t (retimed t n (times_put flags stat now))).nodes n) set.0 ∙ times_set t n now was there (times_put flags stat now)
    ]

-- ---- the calls

module _ (constants : Constants) (S : State) (who : Who) (call : Call) (table : Table) (is : IsAllowed S who call table) where
  -- where a node becomes another one, that alone is changed
  becomes_leaves : (n : ℕ) (node : Node) → (meaning_of call).effect constants (whole (tick S)) who table ≡ becomes n (Some node)
      → unreleased constants S who call ≡ with_node_later S n node
  becomes_leaves n node done =
      ap (λ (o : Outcome). waits_if o.answer who (waiting constants call who (S.clock + 1000)) (put_all o.updates (tick S)))
      (outcome_of_table constants S who call table is.own ∙ ap (λ r. unless r ((meaning_of call).effect constants (whole (tick S)) who table)) is.allowed ∙ done)

by_file : (S : State) (table : Table) (fd n : ℕ) (was : Node) (bytes : List ℕ) (is : IsOfFile S table fd n was bytes) (f : Option OpenKind → Outcome)
    → f (open_of (whole (tick S)) (get table fd)) ≡ f (Some (File n is.offset is.flags))
by_file S table fd n was bytes is f = ap (λ d. f (open_of (whole (tick S)) d)) is.there ∙ ap f is.opened

fits : (size : ℕ) (o : Outcome) → size ≤ 67108864 → unless_large size o ≡ o
fits size o few = ap (λ b. cond b (replies (refused Fbig)) o) (le-ltb 67108864 size few)

pub sizes_and_times_are_set : SizesAndTimesAreSet
sizes_and_times_are_set = record {
  grows = λ constants S who fd offset size n was bytes table is file more few.
      let now : ℕ = real_time constants (S.clock + 1000) in
      let t : Tree = tree_of S in
      let total : ℕ = offset + size in
      let longest : max (length bytes) total ≡ total = omega (arith, more) in
      let zeros : List ℕ = replicate (total - length bytes) 0 in
      becomes_leaves constants S who (FileAllocate fd offset size) table is n (resized_node was (bytes ++ zeros) now)
      (by_file S table fd n was bytes file (allocate total now t) ∙ fits total (becomes_in n (sized t n now (max (length (bytes_of t n)) total))) few
      ∙ ap (λ old. becomes_in n (sized t n now (max (length old) total))) (bytes_are t n now was file.node bytes file.is)
      ∙ ap (λ k. becomes_in n (sized t n now k)) longest
      ∙ ap (becomes n) (size_set t n now was file.node bytes file.is total (λ same. omega (arith, same, more))
      ∙ ap (λ new. Some (resized_node was new now)) (front_padded bytes total ∙ ap (λ front. front ++ zeros) (take_all total bytes (omega (arith, more))))));
  stays = λ constants S who fd offset size n was bytes table is file less few.
      let now : ℕ = real_time constants (S.clock + 1000) in
      let t : Tree = tree_of S in
      let total : ℕ = offset + size in
      let longest : max (length bytes) total ≡ length bytes = omega (arith, less) in
      becomes_leaves constants S who (FileAllocate fd offset size) table is n was
      (by_file S table fd n was bytes file (allocate total now t) ∙ fits total (becomes_in n (sized t n now (max (length (bytes_of t n)) total))) few
      ∙ ap (λ old. becomes_in n (sized t n now (max (length old) total))) (bytes_are t n now was file.node bytes file.is)
      ∙ ap (λ k. becomes_in n (sized t n now k)) longest ∙ ap (becomes n) (size_kept t n now was file.node bytes file.is));
  sizes = λ constants S who fd stat n was bytes table is file differs few.
      let now : ℕ = real_time constants (S.clock + 1000) in
      let t : Tree = tree_of S in (
        resized bytes stat.size,
        is_sized bytes stat.size,
        becomes_leaves constants S who (FileStatFput fd stat 16) table is n (resized_node was (resized bytes stat.size) now)
            (by_file S table fd n was bytes file (put_open 16 stat now t) ∙ fits stat.size (becomes_in n (put_stat 16 stat now t n)) few
            ∙ ap (becomes n) (size_set t n now was file.node bytes file.is stat.size differs)),
      );
  both = λ constants S who fd stat flags n was bytes table is file size some differs few.
      let now : ℕ = real_time constants (S.clock + 1000) in
      let t : Tree = tree_of S in
      let new : Node = resized_node was (resized bytes stat.size) now in (
        resized bytes stat.size,
        times_put flags stat now new.times,
        is_sized bytes stat.size,
        are_chosen flags stat now new.times,
        becomes_leaves constants S who (FileStatFput fd stat flags) table is n (record new { times = times_put flags stat now new.times })
            (by_file S table fd n was bytes file (put_open flags stat now t)
            ∙ ap (λ b. unless_large (cond (not b) stat.size 0) (becomes_in n (put_times flags stat now (cond (not b) (sized t n now stat.size) t) n)))
            (is_set (bit_and flags 16) size)
            ∙ fits stat.size (becomes_in n (put_times flags stat now (sized t n now stat.size) n)) few
            ∙ ap (becomes n) (put_times_is (sized t n now stat.size) n now flags stat new (size_set t n now was file.node bytes file.is stat.size differs) some)),
      );
  directory = λ constants S who fd stat flags n was table is begins there no_size some.
      let now : ℕ = real_time constants (S.clock + 1000) in
      let t : Tree = tree_of S in (
        times_put flags stat now was.times,
        are_chosen flags stat now was.times,
        becomes_leaves constants S who (FileStatFput fd stat flags) table is n (record was { times = times_put flags stat now was.times })
            (ap (put_open flags stat now t) (opens_directory S table fd n begins)
            ∙ ap (λ k. cond (not (k == 0)) (replies (refused Badf)) (becomes_in n (put_times flags stat now t n))) no_size
            ∙ ap (becomes n) (put_times_is t n now flags stat was there some)),
      );
  times = λ constants S who fd stat flags n was bytes table is file no_size some.
      let now : ℕ = real_time constants (S.clock + 1000) in
      let t : Tree = tree_of S in (
        times_put flags stat now was.times,
        are_chosen flags stat now was.times,
        becomes_leaves constants S who (FileStatFput fd stat flags) table is n (record was { times = times_put flags stat now was.times })
            (by_file S table fd n was bytes file (put_open flags stat now t)
            ∙ ap (λ k. unless_large (cond (not (k == 0)) stat.size 0) (becomes_in n (put_times flags stat now (cond (not (k == 0)) (sized t n now stat.size) t) n))) no_size
            ∙ ap (becomes n) (put_times_is t n now flags stat was file.node some)),
      );
  times_of = λ constants S who lookup path stat flags n was table is sound to there some.
      let now : ℕ = real_time constants (S.clock + 1000) in
      let t : Tree = tree_of S in (
        times_put flags stat now was.times,
        are_chosen flags stat now was.times,
        becomes_leaves constants S who (FileStatPut lookup path stat flags) table is n (record was { times = times_put flags stat now was.times })
            (ap (at_walked (put_found flags stat now t)) (leads S table lookup path n sound to)
            ∙ ap (becomes n) (put_times_is t n now flags stat was there some)),
      );
}
