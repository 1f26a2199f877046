use Rattle.std.proofs.Common.{◌≡◌, ◌++◌, ◌<◌, ◌≤◌, ℕ, List, cond, length, take, drop, min, refl, sym, ap, ◌∙◌, arith}
use Rattle.std.specs.FinMap.{insert}
use Rattle.abi_types.specs.declared.reply.Answer.TheVariants as answer
use Rattle.abi_types.specs.declared.descriptor.Descriptor.{Descriptor}
use Rattle.channel_calls.specs.Calls.{carriers_in}
use Rattle.kernel_model.specs.Channels.{Channel, Pulled, pull, reach}
use Rattle.kernel_model.specs.Release.{count_carried, count_in}
use Rattle.kernel_model.specs.Families.ChannelCalls.{install, received, truncated}
use Rattle.kernel_model.proofs.ChannelChanges.{by_less}
use Rattle.kernel_model.proofs.Tests.{same_some}
use Rattle.channel_calls.proofs.Takes.{carriers_drawn, coming_few, count_parts, first_part, kept_length, kept_part, kept_same, same_read}
use Rattle.channel_calls.proofs.Installs.{installed_counts, installs, no_room}
use Rattle.channel_calls.proofs.Received.{take_done, take_none, take_succeeds}
use Rattle.channel_calls.proofs.Results.{socket_lacked}
use Rattle.channel_calls.proofs.receiving.take.Goals as goal
use Rattle.channel_calls.proofs.receiving.take.Goals.{then-kept-carried, else-kept-carried}

pub first_carried-carried-requires : goal.first_carried-carried-requires
first_carried-carried-requires c = coming_few c.in-Some.channel.now (c.check.ensures c.in-Some.channel.now (sym c.in-Some.ensures))

pub returns-then-len-kept-gt-MOST_DESCRIPTORS-clause-done : goal.returns-then-len-kept-gt-MOST_DESCRIPTORS-clause-done
returns-then-len-kept-gt-MOST_DESCRIPTORS-clause-done c channel there p =
    let asked = c.args.asked.now in
    let same : c.in-Some.channel.now ≡ channel = same_some c.in-Some.channel.now channel (c.in-Some.ensures ∙ there) in
    let pulled = pull asked.length channel in
    let count : c.first_carried-carried.result ≡ length pulled.carried =
    c.first_carried-carried.ensures.count ∙ ap (λ (x : Channel). length (pull asked.length x).carried) same in
    let kept = kept_length asked.room c.min-kept.result c.first_carried-carried.result pulled.carried count c.min-kept.ensures in
    let none = no_room (take asked.room pulled.carried) c.args.table.now c.len.ensures.below
    (omega (arith, kept, c.len.ensures.len, c.if-len-kept-gt-MOST_DESCRIPTORS.true)) in
    take_none p c.args.table.now asked.room c.args.id c.args.channels.now pulled (answer.Reply c.refused.result) none (ap answer.Reply c.refused.ensures)

pub returns-in_err-out-clause-done : goal.returns-in_err-out-clause-done
returns-in_err-out-clause-done c = λ channel there p.
    let asked = c.args.asked.now in
    let same : c.in-Some.channel.now ≡ channel = same_some c.in-Some.channel.now channel (c.in-Some.ensures ∙ there) in
    let pulled = pull asked.length channel in
    let count : c.first_carried-carried.result ≡ length pulled.carried =
    c.first_carried-carried.ensures.count ∙ ap (λ (x : Channel). length (pull asked.length x).carried) same in
    let kept = kept_length asked.room c.min-kept.result c.first_carried-carried.result pulled.carried count c.min-kept.ensures in
    let some = installs (take asked.room pulled.carried) c.args.table.now c.len.ensures.below
    (omega (arith, kept, c.len.ensures.len, c.if-len-kept-gt-MOST_DESCRIPTORS.false)) in
    socket_lacked (received p c.args.table.now asked.room c.args.id pulled) c.args.table.now _ c.args.channels.now _ c.from_residual.result c.from_residual.ensures.0
    (take_succeeds p c.args.table.now asked.room c.args.id pulled some.0 some.1) refl refl

pub returns-in_err-install-clause-done : goal.returns-in_err-install-clause-done
returns-in_err-install-clause-done c = λ channel there p.
    let asked = c.args.asked.now in
    let same : c.in-Some.channel.now ≡ channel = same_some c.in-Some.channel.now channel (c.in-Some.ensures ∙ there) in
    let pulled = pull asked.length channel in
    let count : c.first_carried-carried.result ≡ length pulled.carried =
    c.first_carried-carried.ensures.count ∙ ap (λ (x : Channel). length (pull asked.length x).carried) same in
    let kept = kept_length asked.room c.min-kept.result c.first_carried-carried.result pulled.carried count c.min-kept.ensures in
    let some = installs (take asked.room pulled.carried) c.args.table.now c.len.ensures.below
    (omega (arith, kept, c.len.ensures.len, c.if-len-kept-gt-MOST_DESCRIPTORS.false)) in
    socket_lacked (received p c.args.table.now asked.room c.args.id pulled) c.args.table.now _ c.args.channels.now _ c.from_residual-in_err-install.result c.from_residual-in_err-install.ensures.0
    (take_succeeds p c.args.table.now asked.room c.args.id pulled some.0 some.1) c.in_err-install.ensures.err refl

flags_are : (room k n flags : ℕ) (ds : List Descriptor) → n ≡ length ds → k ≡ min n room → (k < n → flags ≡ 1) → (n ≤ k → flags ≡ 0) → flags ≡ truncated room ds
flags_are room k n flags ds count least one none =
    by_less (λ b. flags ≡ cond b 1 0) room (length ds) (λ less. one (omega (arith, count, least, less))) (λ most. none (omega (arith, count, least, most)))

pub returns-clause-done : goal.returns-clause-done
returns-clause-done c channel there p =
    let asked = c.args.asked.now in
    let kept = c.min-kept.result in
    let many = c.first_carried-carried.result in
    let same : c.in-Some.channel.now ≡ channel = same_some c.in-Some.channel.now channel (c.in-Some.ensures ∙ there) in
    let pulled : Pulled = pull asked.length channel in
    let count : many ≡ length pulled.carried =
    c.first_carried-carried.ensures.count ∙ ap (λ (x : Channel). length (pull asked.length x).carried) same in
    let part : take kept c.first_carried-carried.new.fds ≡ take asked.room pulled.carried =
    kept_part asked.room kept many (pull asked.length c.in-Some.channel.now).carried _ c.first_carried-carried.new.fds
    c.first_carried-carried.ensures.carried c.first_carried-carried.ensures.count c.min-kept.ensures
    ∙ ap (λ (x : Channel). take asked.room (pull asked.length x).carried) same in
    let most = c.reach-count.ensures.most ∙ ap (λ (x : Channel). min asked.length (reach x.waiting)) same in
    let size : length c.deref_mut.result.now ≡ c.reach-count.result =
    omega (arith, ap (λ (xs : List ℕ). length xs) c.deref_mut.ensures.value, c.in_ok-out.out.ok, c.in_ok-out.ensures.len) in
    let again : pull (length c.deref_mut.result.now) channel ≡ pulled = same_read asked.length (length c.deref_mut.result.now) channel (size ∙ most) in
    let done = c.in_ok-install.ensures.ok in
    let whole : take c.in_ok-out.out.len (c.draw.new.out ++ drop (length c.draw.new.out) c.in_ok-out.out.items) ≡ c.draw.new.out =
    first_part c.in_ok-out.out.len c.draw.new.out c.in_ok-out.out.items _ refl
    (let bytes = ap (λ (xs : List ℕ). length xs) (c.draw.ensures.out channel there) ∙ ap (λ (x : Pulled). length x.bytes) again in
    let gives = c.reach-count.ensures.count ∙ ap (λ (x : Channel). length (pull asked.length x).bytes) same in
    omega (arith, bytes, gives, c.in_ok-out.ensures.len)) in
    take_done p c.args.table.now asked.room c.args.id c.args.channels.now pulled done.0 c.given.result _ c.install.new.numbers c.if-kept-carried.flags
    c.install.new.table c.draw.new.channels
    (ap (install c.args.table.now) (sym part) ∙ done.1) c.given.ensures (whole ∙ c.draw.ensures.out channel there ∙ ap (λ (x : Pulled). x.bytes) again)
    (done.3 ∙ ap (λ (ns : List ℕ). ns ++ done.0.fds) c.new-numbers.ensures)
    (flags_are asked.room kept many c.if-kept-carried.flags pulled.carried count c.min-kept.ensures
    (λ less. elim c.if-kept-carried.branch [ then-kept-carried w ↦ w.flags-is | else-kept-carried w ↦ absurd (omega (arith, less, w.if-kept-carried.false)) ])
    (λ least. elim c.if-kept-carried.branch [ then-kept-carried w ↦ absurd (omega (arith, least, w.if-kept-carried.true)) | else-kept-carried w ↦ w.flags-is ]))
    done.2 (c.draw.ensures.channels channel there ∙ ap (λ (x : Pulled). insert c.args.channels.now c.args.id x.rest) again)

pub returns-clause-counts : goal.returns-clause-counts
returns-clause-counts c = λ o.
    let asked = c.args.asked.now in
    let kept = c.min-kept.result in
    let many = c.first_carried-carried.result in
    let channel = c.in-Some.channel.now in
    let there = sym c.in-Some.ensures in
    let pulled : Pulled = pull asked.length channel in
    let part = kept_part asked.room kept many pulled.carried _ c.first_carried-carried.new.fds c.first_carried-carried.ensures.carried
    c.first_carried-carried.ensures.count c.min-kept.ensures in
    let first = kept_same asked.room kept many pulled.carried c.first_carried-carried.ensures.count c.min-kept.ensures in
    let size : length c.deref_mut.result.now ≡ c.reach-count.result =
    omega (arith, ap (λ (xs : List ℕ). length xs) c.deref_mut.ensures.value, c.in_ok-out.out.ok, c.in_ok-out.ensures.len) in
    let again : pull (length c.deref_mut.result.now) channel ≡ pulled =
    same_read asked.length (length c.deref_mut.result.now) channel (size ∙ c.reach-count.ensures.most) in
    let done = c.in_ok-install.ensures.ok in
    let moved = ap (count_in o) done.2 ∙ installed_counts o (take kept c.first_carried-carried.new.fds) c.args.table.now done.0 done.1 in
    let firsts = ap (count_carried o) (part ∙ sym first) in
    let both = count_parts o kept pulled.carried in
    let gone = c.draw.ensures.counts channel there o in
    let rest = ap (λ (x : Pulled). count_carried o (drop kept x.carried)) again in
    let drawn = carriers_drawn o c.args.channels.now c.args.id asked.length channel there in
    let left = ap (carriers_in o) (c.draw.ensures.channels channel there ∙ ap (λ (x : Pulled). insert c.args.channels.now c.args.id x.rest) again) in
    omega (arith, moved, firsts, both, gone, rest, drawn, left)

pub returns-clause-few_carriers : goal.returns-clause-few_carriers
returns-clause-few_carriers c = λ few o.
    let asked = c.args.asked.now in
    let channel = c.in-Some.channel.now in
    let there = sym c.in-Some.ensures in
    let size : length c.deref_mut.result.now ≡ c.reach-count.result =
    omega (arith, ap (λ (xs : List ℕ). length xs) c.deref_mut.ensures.value, c.in_ok-out.out.ok, c.in_ok-out.ensures.len) in
    let again : pull (length c.deref_mut.result.now) channel ≡ pull asked.length channel =
    same_read asked.length (length c.deref_mut.result.now) channel (size ∙ c.reach-count.ensures.most) in
    let drawn = carriers_drawn o c.args.channels.now c.args.id asked.length channel there in
    let left = ap (carriers_in o) (c.draw.ensures.channels channel there ∙ ap (λ (x : Pulled). insert c.args.channels.now c.args.id x.rest) again) in
    omega (arith, drawn, left, few o)
