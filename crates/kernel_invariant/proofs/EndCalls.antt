-- The call that makes a pair of ends.
--     create_is, create_full, create_filled, create_unnumbered      what it comes to, by the pair that is planned;  and where none is
--     pair_small, pair_free, pair_new, pair_fits      the numbers that the pair takes are free, and fit
--     pair_put, pair_nearly      the state that it leaves
--     pair_used, pair_going, pair_table      each node is as much used;  no channel is over;  the table stays one
use Rattle.std.proofs.Common.{◌≡◌, ◌≢◌, ℕ, ◌+◌, ◌-◌, ◌^◌, ◌<◌, ◌==◌, ◌&&◌, ◌||◌, nat_lt, Bool, true, false, Option, None, Some, is_some, inl, inr, refl, sym, ap, ◌∙◌, arith}
use Rattle.std.proofs.lemmas.Bool.Decides.{eqb_tells}
use Rattle.std.specs.Ordering.{nat_cmp}
use Rattle.std.specs.FinMap.{FinMap, get, insert}
use Rattle.abi_base.specs.declared.errno.Errno.TheVariants.{Again, Mfile}
use Rattle.abi_base.specs.declared.limits.TheConstants.{MOST_DESCRIPTORS}
use Rattle.abi_types.specs.declared.chan_kind.ChanKind.{ChanKind}
use Rattle.abi_types.specs.declared.chan_kind.ChanKind.TheVariants as chan_kind
use Rattle.abi_types.specs.declared.call.Call.TheVariants as call
use Rattle.abi_types.specs.declared.descriptor.Descriptor.{Descriptor}
use Rattle.abi_types.specs.declared.open_kind.OpenKind.{OpenKind}
use Rattle.abi_types.specs.declared.open_kind.OpenKind.TheVariants.{End}
use Rattle.abi_types.specs.declared.reply.Answer.TheVariants as answer
use Rattle.abi_types.specs.declared.who.Who.{Who}
use Rattle.channel_calls.specs.Calls.{AllGoOn, Channels}
use Rattle.channel_calls.specs.Pairs.{AreFree, AreNew, channels_with, end_one, end_two, model_of, number_one, number_two, opens_with, table_with}
use Rattle.channel_calls.specs.declared.pairs.Pair.{Pair}
use Rattle.channel_calls.specs.declared.pairs.PairKind.{PairKind}
use Rattle.channel_calls.specs.declared.pairs.PairKind.TheVariants.{Fifo, Stream}
use Rattle.fd_table.specs.Sizes.{below-insert}
use Rattle.fd_table.specs.Table.{IsFull, IsLowestFree, IsTable}
use Rattle.maps.specs.Maps.{number, get-insert-same, get-insert-other, total-insert_new}
use Rattle.tree_model.specs.Opens.{is_used, one_of_node}
use Rattle.tree_model.specs.Tree.{Tree, links_of}
use Rattle.tree_model.specs.declared.limits.TheConstants.{ROOT}
use Rattle.kernel_model.specs.Channels.{new_channel}
use Rattle.kernel_model.specs.Families.DescriptorCalls.{lowest_free}
use Rattle.kernel_model.specs.Families.Numbers.{can_number, made_more, next_object, object_of}
use Rattle.kernel_model.specs.Families.SocketCalls as model
use Rattle.kernel_model.specs.Outcome.{replies}
use Rattle.kernel_model.specs.Release.{is_channel_kept}
use Rattle.kernel_model.specs.Reply.{refused, success}
use Rattle.kernel_model.specs.State.{State, ProcessState, Table, put_all}
use Rattle.kernel_model.specs.Valid.{IsNearlyValid}
use Rattle.kernel_model.proofs.Calls.{proper}
use Rattle.kernel_model.proofs.ObjectNumbers.{fewer_fit}
use Rattle.kernel_model.proofs.PairCalls.{absent}
use Rattle.kernel_model.proofs.Tests.{not_true}
use Rattle.kernel_parts.proofs.Lowest.{full_is_none, lowest_is}
use Rattle.kernel_invariant.proofs.Channels.{AreCounted, no_constants}
use Rattle.kernel_invariant.proofs.Leaving.{none_holds_or_carries}

-- ---- what it comes to

module _ (p t : ℕ) (own : Option ProcessState) (table : Table) (made : model.Pair) where
  pub create_full : lowest_free table ≡ None → model.create (Some made) p t own table ≡ replies (refused Mfile)
  create_full none = ap (model.create_first made p t own table) none

  first_is : (one : ℕ) → IsLowestFree table one → model.create (Some made) p t own table
      ≡ model.create_second made p t own table one (lowest_free (model.with_first made p own table one))
  first_is one free = ap (model.create_first made p t own table) (lowest_is table one free)

  pub create_filled : (one : ℕ) → IsLowestFree table one → IsTable table
      → ((d : Descriptor) → IsFull (insert table one d)) → model.create (Some made) p t own table ≡ replies (refused Mfile)
  create_filled one free small full =
      let d = model.end_descriptor (model.first_number made p own) (model.first_end made p own) in
      first_is one free
      ∙ ap (model.create_second made p t own table one) (full_is_none (insert table one d) (below-insert MOST_DESCRIPTORS table one d small free.0) (full d))

  second_is : (one two : ℕ) → IsLowestFree table one → ((d : Descriptor) → IsLowestFree (insert table one d) two)
      → model.create (Some made) p t own table ≡ model.create_if (model.can_create p t (model.count_of made) own) made p own table one two
  second_is one two free second =
      let d = model.end_descriptor (model.first_number made p own) (model.first_end made p own) in
      first_is one free ∙ ap (model.create_second made p t own table one) (lowest_is (insert table one d) two (second d))

  pub create_unnumbered : (one two : ℕ) → IsLowestFree table one → ((d : Descriptor) → IsLowestFree (insert table one d) two)
      → model.can_create p t (model.count_of made) own ≡ false → model.create (Some made) p t own table ≡ replies (refused Again)
  create_unnumbered one two free second cannot = second_is one two free second ∙ ap (λ b. model.create_if b made p own table one two) cannot

  pub create_is : (one two : ℕ) → IsLowestFree table one → ((d : Descriptor) → IsLowestFree (insert table one d) two)
      → model.can_create p t (model.count_of made) own ≡ true
      → model.create (Some made) p t own table
      ≡ record { answer = answer.Reply (success one two); updates = model.create_updates made p own table one two }
  create_is one two free second can = second_is one two free second ∙ ap (λ b. model.create_if b made p own table one two) can

pub create_nearly : (S : State) (who : Who) (table : Table) (kind : ℕ) → get S.tables who.pid ≡ Some table → IsNearlyValid S
    → IsNearlyValid (put_all (model.create (model.made_of kind) who.pid who.tid (get S.processes who.pid) table).updates S)
create_nearly S who table kind there nearly = (proper (call.FdCreate2 kind)).valid no_constants S who table there nearly

-- ---- the pair

abbrev pub pair_by : PairKind → ℕ → ℕ → ℕ → Pair
pair_by k f a b = record { kind = k; first = f; one = a; two = b }

second_true : (a b : Bool) → (a && b) ≡ true → b ≡ true
second_true true b h = h
second_true false b h = absurd (not_true h)

pub numbers_can : (p t : ℕ) (made : model.Pair) (o : Option ProcessState) (own : ProcessState) → o ≡ Some own → model.can_create p t (model.count_of made) o ≡ true
    → can_number p (model.count_of made) (Some own) ≡ true
numbers_can p t made o own there can =
    second_true (model.has_thread t (Some own)) (can_number p (model.count_of made) (Some own)) (ap (model.can_create p t (model.count_of made)) (sym there) ∙ can)

-- the number of the first, by that of the last
pub first_of : (k : PairKind) (p last count taken : ℕ) (own : Option ProcessState) → last ≡ next_object p own count → count ≡ model.count_of (model_of k)
    → taken ≡ count - 1 → last - taken ≡ next_object p own 1
first_of Fifo p last count taken own is size less = omega (arith, is, size, less)
first_of Stream p last count taken own is size less = omega (arith, is, size, less)

-- one that hasn't the thread can't make them
pub threadless : (p t count : ℕ) (own : ProcessState) → get own.threads t ≡ None → model.can_create p t count (Some own) ≡ false
threadless p t count own none = ap (λ o. is_some o && can_number p count (Some own)) none

pub unnumbered_pair : (p t count : ℕ) (own : ProcessState) → can_number p count (Some own) ≡ false → model.can_create p t count (Some own) ≡ false
unnumbered_pair p t count own cannot = ap (λ b. model.has_thread t (Some own) && b) cannot ∙ none (model.has_thread t (Some own)) where
  none : (b : Bool) → (b && false) ≡ false
  none true = refl
  none false = refl

pub numbered_pair : (p t count : ℕ) (own : ProcessState) → is_some (get own.threads t) ≡ true → can_number p count (Some own) ≡ true
    → model.can_create p t count (Some own) ≡ true
numbered_pair p t count own has can = λ i. has i && can i

-- the objects have numbers that fit
pub pair_fits : (k : PairKind) (p : ℕ) (own : ProcessState) → can_number p (model.count_of (model_of k)) (Some own) ≡ true
    → (p < 0xffffffff) × (own.counts.objects + model.count_of (model_of k) < 2 ^ 32)
pair_fits Fifo p own can = fewer_fit p 3 3 (Some own) (omega arith) (omega arith) can
pair_fits Stream p own can = fewer_fit p 4 4 (Some own) (omega arith) (omega arith) can

pub pair_small : (k : PairKind) (p f : ℕ) (own : ProcessState) → can_number p (model.count_of (model_of k)) (Some own) ≡ true → f ≡ object_of p (own.counts.objects + 1)
    → f + 3 < 2 ^ 64
pair_small Fifo p f own can is = let fits = pair_fits Fifo p own can in let less = fits.0 in let few = fits.1 in omega (arith, less, few, is)
pair_small Stream p f own can is = let fits = pair_fits Stream p own can in let less = fits.0 in let few = fits.1 in omega (arith, less, few, is)

apart_by : (table : Table) (a b : ℕ) → ((d : Descriptor) → IsLowestFree (insert table a d) b) → (d : Descriptor) → a ≢ b
apart_by table a b second d is = none_some (sym (second d).1 ∙ ap (get (insert table a d)) (sym is) ∙ get-insert-same table a d) where
  none_some : {x : Descriptor} → None ≡ Some x → ⊥
  none_some e = cc

pub pair_free : (table : Table) (a b : ℕ) → IsLowestFree table a → ((d : Descriptor) → IsLowestFree (insert table a d) b) → (k : PairKind) (f : ℕ)
    → AreFree (pair_by k f a b) table
pair_free table a b free second k f =
    let d : Descriptor = record { id = 0; base = record { 0 = 0 }; inheriting = record { 0 = 0 } } in
    let apart : a ≢ b = apart_by table a b second d in
    record {
      below_one = free.0;
      below_two = (second d).0;
      one = free.1;
      two = sym (get-insert-other table a d b (λ e. apart (sym e))) ∙ (second d).1;
      apart = apart;
    }

module _ (S : State) (p : ℕ) (own : ProcessState) (there : get S.processes p ≡ Some own) (v : IsNearlyValid S) (counts : FinMap nat_cmp ℕ)
    (counted : AreCounted counts S.tables S.chans) where
  unheld : (o : ℕ) → get S.opens o ≡ None → number (get counts o) ≡ 0
  unheld o none = counted o ∙ none_holds_or_carries S o none v

  pub pair_new : (k : PairKind) (f a b : ℕ) → can_number p (model.count_of (model_of k)) (Some own) ≡ true → f ≡ object_of p (own.counts.objects + 1)
      → AreNew (pair_by k f a b) S.chans S.opens counts
  pair_new Fifo f a b can is =
      let first = absent S p own there v 2 can 1 (omega arith) (omega arith) in
      let second = absent S p own there v 2 can 2 (omega arith) (omega arith) in
      let third = absent S p own there v 2 can 3 (omega arith) (omega arith) in
      let two : f + 1 ≡ object_of p (own.counts.objects + 2) = omega (arith, is) in
      let three : f + 1 + 1 ≡ object_of p (own.counts.objects + 3) = omega (arith, is) in
      record {
        first_channel = ap (get S.chans) is ∙ first.1;
        second_channel = λ _. ap (get S.chans) two ∙ second.1;
        one = ap (get S.opens) two ∙ second.0;
        two = ap (get S.opens) three ∙ third.0;
        unheld_one = unheld (f + 1) (ap (get S.opens) two ∙ second.0);
        unheld_two = unheld (f + 1 + 1) (ap (get S.opens) three ∙ third.0);
      }
  pair_new Stream f a b can is =
      let first = absent S p own there v 3 can 1 (omega arith) (omega arith) in
      let second = absent S p own there v 3 can 2 (omega arith) (omega arith) in
      let third = absent S p own there v 3 can 3 (omega arith) (omega arith) in
      let fourth = absent S p own there v 3 can 4 (omega arith) (omega arith) in
      let two : f + 1 ≡ object_of p (own.counts.objects + 2) = omega (arith, is) in
      let three : f + 2 ≡ object_of p (own.counts.objects + 3) = omega (arith, is) in
      let four : f + 2 + 1 ≡ object_of p (own.counts.objects + 4) = omega (arith, is) in
      record {
        first_channel = ap (get S.chans) is ∙ first.1;
        second_channel = λ _. ap (get S.chans) two ∙ second.1;
        one = ap (get S.opens) three ∙ third.0;
        two = ap (get S.opens) four ∙ fourth.0;
        unheld_one = unheld (f + 2) (ap (get S.opens) three ∙ third.0);
        unheld_two = unheld (f + 2 + 1) (ap (get S.opens) four ∙ fourth.0);
      }

-- ---- the state with it

abbrev pub with_pair : State → ℕ → ProcessState → Table → Pair → State
with_pair S p own table pair = record S {
  processes = insert S.processes p (made_more (model.count_of (model_of pair.kind)) own);
  chans = channels_with pair S.chans;
  opens = opens_with pair S.opens;
  tables = insert S.tables p (table_with pair table);
}

pub pair_put : (S : State) (p : ℕ) (own : ProcessState) (table : Table) (k : PairKind) (f a b : ℕ) → get S.processes p ≡ Some own
    → f ≡ object_of p (own.counts.objects + 1)
    → with_pair S p own table (pair_by k f a b) ≡ put_all (model.create_updates (model_of k) p (get S.processes p) table a b) S
pair_put S p own table Fifo f a b there is =
    let two : f + 1 ≡ object_of p (own.counts.objects + 2) = omega (arith, is) in
    let three : f + 1 + 1 ≡ object_of p (own.counts.objects + 3) = omega (arith, is) in
    (λ i. record S {
      processes = insert S.processes p (made_more 3 own);
      chans = insert S.chans (is i) new_channel;
      opens = insert (insert S.opens (two i) (End (Some (is i)) None 0 chan_kind.Stream)) (three i) (End None (Some (is i)) 0 chan_kind.Stream);
      tables = insert S.tables p (insert (insert table a (model.end_descriptor (two i) (End (Some (is i)) None 0 chan_kind.Stream))) b
          (model.end_descriptor (three i) (End None (Some (is i)) 0 chan_kind.Stream)));
    })
    ∙ ap (λ o. put_all (model.create_updates model.pipe p o table a b) S) (sym there)
pair_put S p own table Stream f a b there is =
    let two : f + 1 ≡ object_of p (own.counts.objects + 2) = omega (arith, is) in
    let three : f + 2 ≡ object_of p (own.counts.objects + 3) = omega (arith, is) in
    let four : f + 2 + 1 ≡ object_of p (own.counts.objects + 4) = omega (arith, is) in
    (λ i. record S {
      processes = insert S.processes p (made_more 4 own);
      chans = insert (insert S.chans (is i) new_channel) (two i) new_channel;
      opens = insert (insert S.opens (three i) (End (Some (is i)) (Some (two i)) 0 chan_kind.Stream)) (four i) (End (Some (two i)) (Some (is i)) 0 chan_kind.Stream);
      tables = insert S.tables p (insert (insert table a (model.end_descriptor (three i) (End (Some (is i)) (Some (two i)) 0 chan_kind.Stream))) b
          (model.end_descriptor (four i) (End (Some (two i)) (Some (is i)) 0 chan_kind.Stream)));
    })
    ∙ ap (λ o. put_all (model.create_updates model.pair p o table a b) S) (sym there)

-- an end is no open of a node
end_used : (opens : FinMap nat_cmp OpenKind) (o : ℕ) (reads writes : Option ℕ) (flags : ℕ) (form : ChanKind) (t : Tree) (n : ℕ) → get opens o ≡ None
    → is_used (insert opens o (End reads writes flags form)) t n ≡ is_used opens t n
end_used opens o reads writes flags form t n none =
    let sums = total-insert_new (one_of_node n) opens o (End reads writes flags form) none in
    ap (λ k. (n == ROOT) || (nat_lt 0 (links_of t n) || nat_lt 0 k)) (sums ∙ omega arith)

pub pair_used : (k : PairKind) (f a b : ℕ) (chans : Channels) (opens : FinMap nat_cmp OpenKind) (counts : FinMap nat_cmp ℕ) (t : Tree) (n : ℕ)
    → AreNew (pair_by k f a b) chans opens counts → is_used (opens_with (pair_by k f a b) opens) t n ≡ is_used opens t n
pair_used Fifo f a b chans opens counts t n new =
    end_used (insert opens (f + 1) (End (Some f) None 0 chan_kind.Stream)) (f + 1 + 1) None (Some f) 0 chan_kind.Stream t n
    (get-insert-other opens (f + 1) (End (Some f) None 0 chan_kind.Stream) (f + 1 + 1) (λ e. (omega (arith, e))) ∙ new.two)
    ∙ end_used opens (f + 1) (Some f) None 0 chan_kind.Stream t n new.one
pair_used Stream f a b chans opens counts t n new =
    end_used (insert opens (f + 2) (End (Some f) (Some (f + 1)) 0 chan_kind.Stream)) (f + 2 + 1) (Some (f + 1)) (Some f) 0 chan_kind.Stream t n
    (get-insert-other opens (f + 2) (End (Some f) (Some (f + 1)) 0 chan_kind.Stream) (f + 2 + 1) (λ e. (omega (arith, e))) ∙ new.two)
    ∙ end_used opens (f + 2) (Some f) (Some (f + 1)) 0 chan_kind.Stream t n new.one

new_going : (chans : Channels) (c : ℕ) → AllGoOn chans → AllGoOn (insert chans c new_channel)
new_going chans c going e =
    elim (eqb_tells e c) [
      | inl is ↦ ap is_channel_kept (ap (get (insert chans c new_channel)) is.1 ∙ get-insert-same chans c new_channel)
      | inr other ↦ ap is_channel_kept (get-insert-other chans c new_channel e other.1) ∙ going e
    ]

pub pair_going : (k : PairKind) (f a b : ℕ) (chans : Channels) → AllGoOn chans → AllGoOn (channels_with (pair_by k f a b) chans)
pair_going Fifo f a b chans going = new_going chans f going
pair_going Stream f a b chans going = new_going (insert chans f new_channel) (f + 1) (new_going chans f going)

pub pair_table : (table : Table) (k : PairKind) (f a b : ℕ) → AreFree (pair_by k f a b) table → IsTable table → IsTable (table_with (pair_by k f a b) table)
pair_table table k f a b free small =
    let first = model.end_descriptor (number_one (pair_by k f a b)) (end_one (pair_by k f a b)) in
    let second = model.end_descriptor (number_two (pair_by k f a b)) (end_two (pair_by k f a b)) in
    below-insert MOST_DESCRIPTORS (insert table a first) b second (below-insert MOST_DESCRIPTORS table a first small free.below_one) free.below_two
