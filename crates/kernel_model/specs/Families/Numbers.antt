-- The numbers of the objects that a process makes: its own number, and how many it has made so far.
use Rattle.std.specs.Prelude.{ℕ, zero, suc, ◌+◌, ◌*◌, ◌^◌, ◌&&◌, nat_lt, Bool, true, false, List, [], ◌∷◌, ◌++◌, Option, None, Some}
use Rattle.kernel_model.specs.State.{ProcessState, Part, Update, at_open, at_node, at_names, at_chan, set_process, counts_in}

-- the object that a process numbers so
abbrev pub object_of : ℕ → ℕ → ℕ
object_of p k = p * 2 ^ 32 + k

-- the k-th of the objects that a process makes next
abbrev pub next_object : ℕ → Option ProcessState → ℕ → ℕ
next_object p own k = object_of p ((counts_in own).objects + k)

-- Whether a process can make so many objects more. One that has made nearly 2^32 can't, and 0xffffffff is the number that stands
-- for the launch's objects, so that no process has it. No run comes so far.
abbrev pub can_number : ℕ → ℕ → Option ProcessState → Bool
can_number p zero own = true
can_number p (suc count) None = false
can_number p (suc count) (Some own) = nat_lt p 0xffffffff && nat_lt (own.counts.objects + suc count) (2 ^ 32)

-- what a process has of its own once it has made so many more
abbrev pub made_more : ℕ → ProcessState → ProcessState
made_more count own = record own { counts = record own.counts { objects = own.counts.objects + count } }

abbrev pub process_updates : ℕ → ℕ → Option ProcessState → List Update
process_updates p zero own = []
process_updates p (suc count) None = []
process_updates p (suc count) (Some own) = set_process p (made_more (suc count) own) ∷ []

-- the parts that an object of this number may be
abbrev pub object_parts : ℕ → List Part
object_parts o = at_open o ∷ at_node o ∷ at_names o ∷ at_chan o ∷ []

-- the parts of the objects that a process makes next, so many
abbrev pub new_parts : ℕ → ℕ → Option ProcessState → List Part
new_parts p zero own = []
new_parts p (suc count) own = object_parts (next_object p own (suc count)) ++ new_parts p count own
