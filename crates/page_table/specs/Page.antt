use Rattle.std.specs.Prelude.{ℕ, List, Bool, replicate, refl}
use Rattle.std.specs.Coded.{Coded, code_by, coded×, coded_bool, coded_list, coded_ℕ}
use Rattle.std.specs.Ordering.{nat_cmp}
use Rattle.std.specs.FinMap.{FinMap}
use Rattle.abi_base.specs.declared.address_space.TheConstants.{PAGE_SIZE}
use Rattle.abi_base.specs.declared.prot.Prot.{Prot}

-- a page of a guest's memory: its 4096 bytes, and what may be done with them
pub record Page : Type 0 where
  pub bytes : List ℕ
  pub prot : Prot

-- a guest's memory: the pages that are there, by number; a page's number is the address of its first byte divided by 4096
abbrev pub Pages : Type 0
Pages = FinMap nat_cmp Page

-- a page of zeros
abbrev pub zero_page : Prot → Page
zero_page prot = record { bytes = replicate PAGE_SIZE 0; prot = prot }

-- the same bytes with other rights
abbrev pub with_prot : Prot → Page → Page
with_prot prot p = record p { prot = prot }

-- a page is stored as its bytes and its three rights
abbrev pub page_code : Coded Page
page_code =
    code_by (List ℕ × (Bool × (Bool × Bool))) (coded× (coded_list coded_ℕ) (coded× coded_bool (coded× coded_bool coded_bool)))
    (λ p. (p.bytes, (p.prot.read, (p.prot.write, p.prot.exec)))) (λ c. record { bytes = c.0; prot = record { read = c.1.0; write = c.1.1.0; exec = c.1.1.1 } }) (λ _. refl)
