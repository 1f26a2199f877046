-- Which entries traces begin with that begin with no grant.
--     traces_begin_so      the law
use Rattle.std.proofs.Common.{◌≡◌, inl, inr, ℕ, true, List, [], ◌∷◌, ◌++◌, refl, sym, ap, subst, ◌∙◌, append_assoc}
use Rattle.abi_types.specs.declared.descriptor.Descriptor.{Descriptor}
use Rattle.abi_types.specs.declared.open_kind.OpenKind.{OpenKind}
use Rattle.abi_types.specs.declared.open_kind.OpenKind.TheVariants.{End, Process}
use Rattle.run_types.specs.declared.history.Entry.{Entry}
use Rattle.run_types.specs.declared.launch.Launch.{Launch}
use Rattle.kernel_model.proofs.Tests.{not_true}
use Rattle.authority_laws.specs.Ledger.{is_new}
use Rattle.authority_laws.specs.Traces.{Makes, Traced, of_entry, of_grant, root}
use Rattle.authority_laws.specs.Traces as way
use Rattle.confinement_laws.specs.Making.{HasMaker, IsMadeOfNothing, IsMaker, TracesBeginSo}

maker_of : (e : Entry) (n : ℕ) → Makes e n → IsMaker e
maker_of e n (inl ends) = inl (ends.0, ends.1, ends.2)
maker_of e n (inr child) = inr (child.0, child.1, child.2)

new_is_of_nothing : (kind : OpenKind) → is_new kind ≡ true → IsMadeOfNothing kind
new_is_of_nothing (End reads writes flags form) new = tt
new_is_of_nothing (Process p object) new = tt
new_is_of_nothing _ new = absurd (not_true new)

-- more entries behind the maker
made_earlier : (launch : Launch) (history more : List Entry) → HasMaker launch history → HasMaker launch (history ++ more)
made_earlier launch history more m = record {
  front = m.front;
  e = m.e;
  rest = m.rest ++ more;
  is = ap (λ es. es ++ more) m.is ∙ append_assoc m.front (m.e ∷ m.rest) more;
  maker = m.maker;
  number = m.number;
  kind = m.kind;
  absent = m.absent;
  opened = m.opened;
  of = m.of;
}

no_grant : {X : Type 0} (k : ℕ) → of_grant k ≡ of_entry → X
no_grant k is = absurd cc

module _ (launch : Launch) where
  pub begins_so : (history : List Entry) (p n : ℕ) (d : Descriptor) (trace : Traced launch history p n d) → root launch history p n d trace ≡ of_entry
      → HasMaker launch history
  begins_so history p n d (way.granted k grant is) from = no_grant k from
  begins_so history p n d (way.kept front e q m x before here) from = made_earlier launch front (e ∷ []) (begins_so front q m x before from)
  begins_so history p n d (way.copied front e f t copies c before) from = made_earlier launch front (e ∷ []) (begins_so front e.pid f c.d before from)
  begins_so history p n d (way.lowered front e m stat lowers l before) from = made_earlier launch front (e ∷ []) (begins_so front e.pid m l.x before from)
  begins_so history p n d (way.opened front e fd t stat opens o before) from = made_earlier launch front (e ∷ []) (begins_so front e.pid fd o.x before from)
  begins_so history p n d (way.inherited front e q m x child before here) from = made_earlier launch front (e ∷ []) (begins_so front e.pid m x before from)
  begins_so history p n d (way.listed front e k m x lists before here) from = made_earlier launch front (e ∷ []) (begins_so front e.pid m x before from)
  begins_so history p n d (way.made front e m x makes is here) from = record {
    front = front;
    e = e;
    rest = [];
    is = refl;
    maker = maker_of e m makes;
    number = x.id;
    kind = is.kind;
    absent = is.absent;
    opened = is.opened;
    of = new_is_of_nothing is.kind is.new;
  }
  begins_so history p n d (way.received front e m c x receives s before here) from =
      let early : HasMaker launch s.early = begins_so s.early s.sender.pid s.m x before from in
      let sent : HasMaker launch front = subst (HasMaker launch) (sym s.is) (made_earlier launch s.early (s.sender ∷ s.between) early) in
      made_earlier launch front (e ∷ []) sent

pub traces_begin_so : TracesBeginSo
traces_begin_so launch history p n d trace from = begins_so launch history p n d trace from
