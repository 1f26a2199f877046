-- The codes of what contracts see of a queue, by which proofs distinguish that: tuples of the parts.
use Rattle.std.specs.Prelude.{ℕ, List, refl}
use Rattle.std.specs.Coded.{Coded, code_by, coded×, coded_list, coded_ℕ}
use Rattle.std.specs.FinMap.{FinMap, code}
use Rattle.std.specs.FinSet as set
use Rattle.std.specs.Ordering.{nat_cmp}
use Rattle.turn_queue.specs.Numbered.{Numbered, Numbers}
use Rattle.turn_queue.specs.Tickets.{Tickets}

abbrev pub numbers_code : Coded Numbers
numbers_code = set.code coded_ℕ

abbrev pub numbered_code : {T : Type 0} → Coded T → Coded (Numbered T)
numbered_code {T} ticket =
    code_by (FinMap nat_cmp T × (ℕ × Numbers)) (coded× (code coded_ℕ ticket) (coded× coded_ℕ numbers_code)) (λ t. (t.tickets, (t.next, t.busy)))
    (λ f. record { tickets = f.0; next = f.1.0; busy = f.1.1 }) (λ _. refl)

abbrev pub tickets_code : {T : Type 0} → Coded T → Coded (Tickets T)
tickets_code {T} ticket =
    code_by (List T × (FinMap nat_cmp T × Numbers)) (coded× (coded_list ticket) (coded× (code coded_ℕ ticket) numbers_code))
    (λ t. (t.ready, (t.parked, t.busy))) (λ f. record { ready = f.0; parked = f.1.0; busy = f.1.1 }) (λ _. refl)
