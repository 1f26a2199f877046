-- How each descriptor that is held came there, from a grant of the launch on.
use Rattle.std.specs.Prelude.{◌≡◌, ◌≢◌, ◌⊎◌, ⊤, ℕ, bit_and, true, List, [], ◌∷◌, ◌++◌, Option, None, Some, slice_get}
use Rattle.std.specs.FinMap.{get}
use Rattle.abi_base.specs.declared.grant.Grant.{Grant}
use Rattle.abi_base.specs.declared.flags.TheConstants.{FDSTAT_RIGHTS}
use Rattle.abi_structures.specs.declared.structures.FdStat.{FdStat}
use Rattle.abi_types.specs.declared.chan_kind.ChanKind.{ChanKind}
use Rattle.abi_types.specs.declared.call.Call.TheVariants.{FdCreate2, FdDup, FdReplace, FdStatPut, FileOpen, ProcExec, ProcFork, SockRecv, SockSend}
use Rattle.abi_types.specs.declared.call.Lookup.{Lookup}
use Rattle.abi_types.specs.declared.descriptor.Descriptor.{Descriptor}
use Rattle.abi_types.specs.declared.open_kind.OpenKind.{OpenKind}
use Rattle.abi_types.specs.declared.open_kind.OpenKind.TheVariants.{File, Directory, End, Terminal}
use Rattle.abi_types.specs.declared.reply.Reply.{Reply}
use Rattle.run_types.specs.declared.history.Entry.{Entry}
use Rattle.run_types.specs.declared.launch.Launch.{Launch}
use Rattle.kernel_model.specs.OpenLaws.{IsOfSame, IsOpenOf}
use Rattle.kernel_model.specs.Proper.{IsIn, Waits}
use Rattle.kernel_model.specs.Start.{granted_descriptor}
use Rattle.kernel_model.specs.State.{State}
use Rattle.run_model.specs.World.{world}
use Rattle.authority_laws.specs.Ledger.{carried_first, installed_fds, is_new}
use Rattle.authority_laws.specs.Origins.{ComesFromGrant, Gives, HasNoRight, IsCopied, IsLowered, IsOpened, PassesOnNothing}
use Rattle.authority_laws.specs.Recorded.{Succeeds, after_at, child_at, held_after, held_before, ledger}

-- the launch lists this grant under number k, and the open that it gives at the start is of what the grant is of
pub record IsGranted (launch : Launch) (k : ℕ) (grant : Grant) : Type 0 where
  pub listed : slice_get launch.grants k ≡ Some grant
  pub kind : OpenKind
  pub opened : get (world launch []).state.opens (granted_descriptor launch.tree k grant).id ≡ Some kind
  pub of : IsOpenOf launch.tree grant.target kind

-- the entry is an fd_dup or an fd_replace that succeeded, by which a copy of what stands under `from` comes under `to`
abbrev pub Copies : Entry → ℕ → ℕ → Type 0
Copies e from to =
    ((reply : Reply) × Succeeds e (FdDup from) reply × (to ≡ reply.r1)) ⊎ ((reply : Reply) × Succeeds e (FdReplace from to) reply)

-- the entry is an fd_stat_put with RIGHTS that succeeded, which asks that the descriptor under fd keep these rights alone
pub record Lowers (e : Entry) (fd : ℕ) (stat : FdStat) : Type 0 where
  pub flags : ℕ
  pub reply : Reply
  pub succeeds : Succeeds e (FdStatPut fd stat flags) reply
  pub rights : bit_and flags FDSTAT_RIGHTS ≢ 0

-- the entry is a file_open that succeeded from the descriptor under fd, which asks for these rights, and whose result is `to`
pub record OpensFrom (e : Entry) (fd to : ℕ) (stat : FdStat) : Type 0 where
  pub lookup : Lookup
  pub path : List ℕ
  pub oflags : ℕ
  pub reply : Reply
  pub succeeds : Succeeds e (FileOpen lookup path oflags stat) reply
  pub from : fd ≡ lookup.fd
  pub result : to ≡ reply.r1

-- the entry is a proc_exec that succeeded, which lists number m in the n-th place
pub record Lists (e : Entry) (n m : ℕ) : Type 0 where
  pub fd : ℕ
  pub bytes : List ℕ
  pub fds : List ℕ
  pub reply : Reply
  pub succeeds : Succeeds e (ProcExec fd bytes fds) reply
  pub place : slice_get fds n ≡ Some m

-- the entry is an fd_create2 or a proc_fork that succeeded, which makes opens of no descriptor, and n is one of its results
abbrev pub Makes : Entry → ℕ → Type 0
Makes e n =
    ((kind : ℕ) × (reply : Reply) × Succeeds e (FdCreate2 kind) reply × ((n ≡ reply.r1) ⊎ (n ≡ reply.r2)))
    ⊎ ((left : ℕ) × (reply : Reply) × Succeeds e (ProcFork left) reply × (n ≡ reply.r1))

-- d names an open that was made between the states S and U, of a process or of an end of channels, and passes on nothing
pub record IsMade (S U : State) (d : Descriptor) : Type 0 where
  pub kind : OpenKind
  pub absent : get S.opens d.id ≡ None
  pub opened : get U.opens d.id ≡ Some kind
  pub new : is_new kind ≡ true
  pub passes : PassesOnNothing d

-- The entry is a sock_recv that succeeded, and n is one of the numbers that its reply lists. Its socket reads channel c, and d is among
-- what the first send carried that waited there.
pub record Receives (launch : Launch) (front : List Entry) (e : Entry) (n c : ℕ) (d : Descriptor) : Type 0 where
  pub fd : ℕ
  pub length : ℕ
  pub room : ℕ
  pub flags : ℕ
  pub reply : Reply
  pub succeeds : Succeeds e (SockRecv fd length room flags) reply
  pub listed : IsIn n (installed_fds reply.payload)
  pub x : Descriptor
  pub socket : held_before launch front e fd ≡ Some x
  pub writes : Option ℕ
  pub mode : ℕ
  pub form : ChanKind
  pub opened : get (world launch front).state.opens x.id ≡ Some (End (Some c) writes mode form)
  pub came : IsIn d (carried_first (get (world launch front).state.chans c))

-- the open of this number is there, and is of what this open is of
abbrev pub IsStillOf : State → ℕ → OpenKind → Type 0
IsStillOf S o first = (now : OpenKind) × (get S.opens o ≡ Some now) × IsOfSame first now

-- the entry is a sock_send that succeeded, and m is among the numbers of the descriptors that it sends
pub record SendsUnder (e : Entry) (m : ℕ) : Type 0 where
  pub fd : ℕ
  pub bytes : List ℕ
  pub fds : List ℕ
  pub flags : ℕ
  pub reply : Reply
  pub succeeds : Succeeds e (SockSend fd bytes fds flags) reply
  pub listed : IsIn m fds

-- One of these entries, behind those in front of it, sent d to channel c, as what its process held under number m: d waited there after it.
-- Its open is there after all of these entries, of what it was of before that one.
pub record IsSentEarlier (launch : Launch) (history : List Entry) (c : ℕ) (d : Descriptor) : Type 0 where
  pub early : List Entry
  pub sender : Entry
  pub between : List Entry
  pub is : history ≡ early ++ sender ∷ between
  pub m : ℕ
  pub sends : SendsUnder sender m
  pub waited : Waits (world launch (early ++ sender ∷ [])).state c d
  pub stays : (kind : OpenKind) → get (world launch early).state.opens d.id ≡ Some kind → IsStillOf (world launch history).state d.id kind

-- After these entries process p holds d under number n, and it came there so. Each way in which a descriptor may come to a process
-- has a line; but for the first, the last of the entries is the one by which it came or after which it is still there.
pub data Traced (launch : Launch) : List Entry → ℕ → ℕ → Descriptor → Type 0 where
  -- the launch granted it to process 0, under the number of the grant
  granted : (k : ℕ) (grant : Grant) → IsGranted launch k grant → Traced launch [] 0 k (granted_descriptor launch.tree k grant)
  -- the process held it before the entry, under the same number, and holds it there still
  kept : (front : List Entry) (e : Entry) (p n : ℕ) (d : Descriptor) → Traced launch front p n d
      → (ledger launch (front ++ e ∷ [])).held p n ≡ Some d → Traced launch (front ++ e ∷ []) p n d
  -- it is a copy of one that the process held before the entry, under whatever number
  copied : (front : List Entry) (e : Entry) (from to : ℕ) → Copies e from to
      → (c : IsCopied (held_before launch front e) (held_after launch front e) from to) → Traced launch front e.pid from c.d
      → Traced launch (front ++ e ∷ []) e.pid to c.d
  -- it names the open of one that the process held before the entry, under the same number, with exactly those of its rights that
  -- the entry asks for
  lowered : (front : List Entry) (e : Entry) (n : ℕ) (stat : FdStat) → Lowers e n stat
      → (l : IsLowered (held_before launch front e) (held_after launch front e) n stat) → Traced launch front e.pid n l.x
      → Traced launch (front ++ e ∷ []) e.pid n l.d
  -- it was opened at the entry, through a descriptor of a directory that the process held before it: it has no right that this
  -- one does not pass on, and its open is of what is below that directory
  opened : (front : List Entry) (e : Entry) (fd to : ℕ) (stat : FdStat) → OpensFrom e fd to stat
      → (o : IsOpened (world launch front).state (world launch (front ++ e ∷ [])).state ((after_at launch front e).made 0)
      (held_before launch front e) (held_after launch front e) fd to stat)
      → Traced launch front e.pid fd o.x → Traced launch (front ++ e ∷ []) e.pid to o.d
  -- the entry made the process, and the process that did the entry held it before, under the same number
  inherited : (front : List Entry) (e : Entry) (q n : ℕ) (d : Descriptor) → child_at launch front e ≡ Some q → Traced launch front e.pid n d
      → (ledger launch (front ++ e ∷ [])).held q n ≡ Some d → Traced launch (front ++ e ∷ []) q n d
  -- the entry listed it for the program that began: the process held it before, under the number that is listed in this place
  listed : (front : List Entry) (e : Entry) (n m : ℕ) (d : Descriptor) → Lists e n m → Traced launch front e.pid m d
      → held_after launch front e n ≡ Some d → Traced launch (front ++ e ∷ []) e.pid n d
  -- it is of an open that the entry made of no descriptor, a process's or an end of channels
  made : (front : List Entry) (e : Entry) (n : ℕ) (d : Descriptor) → Makes e n
      → IsMade (world launch front).state (world launch (front ++ e ∷ [])).state d → held_after launch front e n ≡ Some d
      → Traced launch (front ++ e ∷ []) e.pid n d
  -- it was received: it had waited for the socket, in a channel, and the process that sent it there held it before it did, under a number
  -- that its sock_send lists, with the same rights
  received : (front : List Entry) (e : Entry) (n c : ℕ) (d : Descriptor) → Receives launch front e n c d → (s : IsSentEarlier launch front c d)
      → Traced launch s.early s.sender.pid s.m d → held_after launch front e n ≡ Some d → Traced launch (front ++ e ∷ []) e.pid n d

-- where a trace begins: with the grant of this number, or with an open of a process or an end of channels that an entry made
pub data Root : Type 0 where
  of_grant : ℕ → Root
  of_entry : Root

abbrev pub root : (launch : Launch) (history : List Entry) (p n : ℕ) (d : Descriptor) → Traced launch history p n d → Root
root launch history p n d (granted k grant is) = of_grant k
root launch history p n d (kept front e q m x before here) = root launch front q m x before
root launch history p n d (copied front e from to copies c before) = root launch front e.pid from c.d before
root launch history p n d (lowered front e m stat lowers l before) = root launch front e.pid m l.x before
root launch history p n d (opened front e fd to stat opens o before) = root launch front e.pid fd o.x before
root launch history p n d (inherited front e q m x child before here) = root launch front e.pid m x before
root launch history p n d (listed front e k m x lists before here) = root launch front e.pid m x before
root launch history p n d (made front e m x makes is here) = of_entry
root launch history p n d (received front e m c x receives s before here) = root launch s.early s.sender.pid s.m x before

-- the open that a traced descriptor names as it was when it came: as the launch granted it, or as the last entry on the way opened it
-- or made it
abbrev pub first_open : (launch : Launch) (history : List Entry) (p n : ℕ) (d : Descriptor) → Traced launch history p n d → OpenKind
first_open launch history p n d (granted k grant is) = is.kind
first_open launch history p n d (kept front e q m x before here) = first_open launch front q m x before
first_open launch history p n d (copied front e from to copies c before) = first_open launch front e.pid from c.d before
first_open launch history p n d (lowered front e m stat lowers l before) = first_open launch front e.pid m l.x before
first_open launch history p n d (opened front e fd to stat opens o before) = o.kind
first_open launch history p n d (inherited front e q m x child before here) = first_open launch front e.pid m x before
first_open launch history p n d (listed front e k m x lists before here) = first_open launch front e.pid m x before
first_open launch history p n d (made front e m x makes is here) = is.kind
first_open launch history p n d (received front e m c x receives s before here) = first_open launch s.early s.sender.pid s.m x before

-- ---- from whom to whom

-- the process that holds what is traced
abbrev pub holder : (launch : Launch) (history : List Entry) (p n : ℕ) (d : Descriptor) → Traced launch history p n d → ℕ
holder launch history p n d trace = p

-- by the entry process p received what an earlier entry of process q sent
pub record IsSentBy (launch : Launch) (front : List Entry) (e : Entry) (q p : ℕ) : Type 0 where
  pub own : p ≡ e.pid
  pub n : ℕ
  pub c : ℕ
  pub d : Descriptor
  pub receives : Receives launch front e n c d
  pub sent : IsSentEarlier launch front c d
  pub sender : q ≡ sent.sender.pid

-- What process q held process p may hold after the entry: it is p itself, or made p by the entry, or sent it what p received by the entry.
abbrev pub HandsOn : Launch → List Entry → Entry → ℕ → ℕ → Type 0
HandsOn launch front e q p = Gives (after_at launch front e) e q p ⊎ IsSentBy launch front e q p

-- So what the trace says stood behind it before the last of its entries was held by such a process.
abbrev pub IsHandedOn : (launch : Launch) (history : List Entry) (p n : ℕ) (d : Descriptor) → Traced launch history p n d → Type 0
IsHandedOn launch history p n d (granted k grant is) = ⊤
IsHandedOn launch history p n d (kept front e q m x before here) = HandsOn launch front e (holder launch front q m x before) q
IsHandedOn launch history p n d (copied front e from to copies c before) = HandsOn launch front e (holder launch front e.pid from c.d before) e.pid
IsHandedOn launch history p n d (lowered front e m stat lowers l before) = HandsOn launch front e (holder launch front e.pid m l.x before) e.pid
IsHandedOn launch history p n d (opened front e fd to stat opens o before) = HandsOn launch front e (holder launch front e.pid fd o.x before) e.pid
IsHandedOn launch history p n d (inherited front e q m x child before here) = HandsOn launch front e (holder launch front e.pid m x before) q
IsHandedOn launch history p n d (listed front e k m x lists before here) = HandsOn launch front e (holder launch front e.pid m x before) e.pid
IsHandedOn launch history p n d (made front e m x makes is here) = ⊤
IsHandedOn launch history p n d (received front e m c x receives s before here) =
    HandsOn launch front e (holder launch s.early s.sender.pid s.m x before) e.pid

-- The open of each traced descriptor is there after these entries, and is of what it was of when it came: where the launch granted it
-- or where an entry opened it.
abbrev pub AllStay : Launch → List Entry → Type 0
AllStay launch history =
    (p n : ℕ) (d : Descriptor) (trace : Traced launch history p n d) → IsStillOf (world launch history).state d.id (first_open launch history p n d trace)

-- each descriptor that the ledger of these entries says is held is traced, whichever process holds it, and under whatever number
abbrev pub AllTraced : Launch → List Entry → Type 0
AllTraced launch history = (p n : ℕ) (d : Descriptor) → (ledger launch history).held p n ≡ Some d → Traced launch history p n d

-- What a descriptor has whose trace begins so: it is no more than what its grant gives, or inherits from it; or it passes on nothing,
-- and is of an open of a process or an end of channels, or has no right at all.
abbrev pub IsWithin : Launch → Root → OpenKind → Descriptor → Type 0
IsWithin launch (of_grant k) first d = ComesFromGrant launch.tree launch.grants k d
IsWithin launch of_entry first d = PassesOnNothing d × ((is_new first ≡ true) ⊎ HasNoRight d)

-- the open is of what stands in a launch's tree or streams: of a file, a directory or a standard stream
abbrev pub IsOfLaunch : OpenKind → Type 0
IsOfLaunch (File n offset flags) = ⊤
IsOfLaunch (Directory n flags) = ⊤
IsOfLaunch (Terminal which flags) = ⊤
IsOfLaunch _ = ⊥

-- The trace of each descriptor of a file, a directory or a standard stream begins with a grant, and the descriptor is no more than that
-- gave, or inherits from it.
abbrev pub AllOfGrants : Launch → List Entry → Type 0
AllOfGrants launch history =
    (p n : ℕ) (d : Descriptor) (trace : Traced launch history p n d) (kind : OpenKind) → get (world launch history).state.opens d.id ≡ Some kind
    → IsOfLaunch kind → (k : ℕ) × (root launch history p n d trace ≡ of_grant k) × ComesFromGrant launch.tree launch.grants k d
