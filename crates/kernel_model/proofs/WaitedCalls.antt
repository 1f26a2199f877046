-- What a call is in which a thread may wait.
--     waited_is_no_lack      it has no lack of memory of its own
--     waited_is_plain      it is not denied, and has no BADF, before the kernel looks at it
use Rattle.std.proofs.Common.{◌≡◌, ◌≢◌, Bool, true, false, List, refl, sym, subst, ◌∙◌}
use Rattle.std.specs.Prelude.{if◌then◌else◌}
use Rattle.std.specs.List.{AllByRecursion}
use Rattle.abi_base.specs.declared.errno.Errno.{Errno}
use Rattle.abi_base.specs.declared.errno.Errno.TheVariants.{Notcapable}
use Rattle.abi_structures.specs.declared.events.Subscription.{Subscription}
use Rattle.abi_types.specs.declared.call.Call.{Call}
use Rattle.abi_types.specs.declared.call.Call.TheVariants as call
use Rattle.abi_types.specs.Families.{is_anonymous}
use Rattle.kernel_model.specs.CallBounds.{IsBadfBefore}
use Rattle.kernel_model.specs.Families.FileMeaning.{on_open}
use Rattle.kernel_model.specs.Families.MemoryCalls.{map_row, map_zeros, mapping}
use Rattle.kernel_model.specs.Families.Polls.{poll}
use Rattle.kernel_model.specs.Laws.{IsNotDeniedEarly}
use Rattle.kernel_model.specs.Meaning.{Meaning}
use Rattle.kernel_model.specs.Waits.{may_wait}
use Rattle.kernel_model.proofs.Calls.{proper}
use Rattle.kernel_model.proofs.Polls.{poll_errors}
use Rattle.kernel_model.proofs.Refusals.{IsNoLackOf}
use Rattle.kernel_model.proofs.Tests.{not_true}

pub waited_is_no_lack : (call : Call) → may_wait call ≡ true → IsNoLackOf call
waited_is_no_lack call may = (proper call).lacks ((proper call).waits may).keeps

-- none of the errors is NOTCAPABLE
abbrev AreNotDenied : List Errno → Type 0
AreNotDenied errors = AllByRecursion (λ errno. errno ≢ Notcapable) errors

poll_is_plain : (subscriptions : List Subscription) → AreNotDenied (poll subscriptions).errors
poll_is_plain subscriptions = subst AreNotDenied (sym (poll_errors subscriptions)) tt

map_never_waits : (place_length : Meaning) (other : Meaning) (b : Bool) → place_length.may_wait ≡ false → other.may_wait ≡ false
    → (if b then place_length else other).may_wait ≡ false
map_never_waits one other true first second = first
map_never_waits one other false first second = second

pub waited_is_plain : (call : Call) → may_wait call ≡ true → IsNotDeniedEarly call × ¬ IsBadfBefore call
waited_is_plain (call.Poll subscriptions) may = (poll_is_plain subscriptions, λ h. h)
waited_is_plain (call.MemMap place length prot flags fd offset) may =
    absurd (not_true (sym (map_never_waits (map_zeros place) (on_open (map_row fd prot) (mapping place length offset)) (is_anonymous flags) refl refl) ∙ may))
waited_is_plain (call.FdRead fd length) may = (((λ e. cc), ((λ e. cc), tt)), λ h. h)
waited_is_plain (call.FdWrite fd bytes) may = (((λ e. cc), ((λ e. cc), ((λ e. cc), ((λ e. cc), tt)))), λ h. h)
waited_is_plain (call.SockRecv fd length fds flags) may = (((λ e. cc), ((λ e. cc), ((λ e. cc), ((λ e. cc), tt)))), λ h. h)
waited_is_plain (call.SockSend fd bytes fds flags) may = (((λ e. cc), ((λ e. cc), ((λ e. cc), ((λ e. cc), tt)))), λ h. h)
waited_is_plain _ may = absurd (not_true may)
