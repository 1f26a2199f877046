-- Who has a lock, what a release comes to, and what asking for a lock does, as the model has them.
use Rattle.std.specs.Prelude.{ℕ}
use Rattle.abi_structures.specs.declared.events.What.{What}
use Rattle.abi_structures.specs.declared.events.What.TheVariants.{Condvar, LockRdlock, LockWrlock}
use Rattle.guest_locks.specs.declared.words.Holding.{Holding}
use Rattle.guest_locks.specs.declared.words.Holding.TheVariants.{Unheld, Written, Read}
use Rattle.guest_locks.specs.declared.words.Release.{Release}
use Rattle.guest_locks.specs.declared.words.Release.TheVariants.{Refuses, Leaves, HandsOn}
use Rattle.guest_locks.specs.declared.taking.Taking.{Taking}
use Rattle.guest_locks.specs.declared.taking.Taking.TheVariants.{Deadlock, TooMany, Takes, Queues}
use Rattle.kernel_model.specs.Families.LockWords as word
use Rattle.kernel_model.specs.Families.Locks as model

abbrev pub holding_in : Holding → word.Holding
holding_in Unheld = word.unheld
holding_in (Written owner) = word.written_by owner
holding_in (Read readers) = word.read_by readers

abbrev pub release_in : Release → model.Release
release_in Refuses = model.refuses
release_in (Leaves word) = model.leaves word
release_in HandsOn = model.hands_on

abbrev pub taking_in : Taking → model.Taking
taking_in Deadlock = model.deadlock
taking_in TooMany = model.too_many
taking_in (Takes word) = model.takes word
taking_in Queues = model.queues

-- the word of the lock that is waited for, and 0 where there is none
abbrev pub lock_word : What → ℕ
lock_word (Condvar condvar condvar_word lock word condvar_scope lock_scope) = word
lock_word (LockRdlock lock word scope) = word
lock_word (LockWrlock lock word scope) = word
lock_word other = 0
