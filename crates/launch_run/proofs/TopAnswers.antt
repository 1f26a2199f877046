-- What a top call answers for each end.
--     answers      the answer to words that give these settings or none, and to what they describe
--     answers_of   the same, where `Of P` follows from P of these settings and of this description
--     lacks        memory ran out before anything is known of what is described
use Rattle.std.proofs.Common.{◌≡◌, ◌≢◌, ◌==◌, ◌<◌, ◌⊎◌, ℕ, Bool, true, false, List, [], refl, sym, ap, subst, arith, inl, inr, if◌then◌else◌}
use Rattle.std.specs.Prelude.{Option, None, Some, IfSome, IsSome, IsSomeAnd, Result, Ok, Err}
use Rattle.maps.proofs.Variants.{IfSome-weaker}
use Rattle.input_output.specs.Source.{InputContent}
use Rattle.abi_types.specs.declared.status.Status.{Status}
use Rattle.abi_types.specs.declared.status.Status.TheVariants.{Live, Exit, Killed}
use Rattle.kernel_cell.specs.declared.record.Record.{Record}
use Rattle.run_types.specs.declared.history.Entry.{Entry}
use Rattle.run_types.specs.declared.launch.Launch.{Launch}
use Rattle.tree_model.specs.Grants.{MayBegin}
use Rattle.run_model.specs.Legal.{Legal}
use Rattle.run_model.proofs.Confinements.{legal_is_confined}
use Rattle.run_model.proofs.Potentials.{history_is_short}
use Rattle.authority_laws.proofs.Records.{legal_is_recorded}
use Rattle.confinement_laws.specs.Headline.{IsConfinedHistory}
use Rattle.confinement_laws.specs.Untouched.{UnwrittenStays}
use Rattle.confinement_laws.proofs.Runs.{legal_is_confined_history}
use Rattle.confinement_laws.proofs.Unwritten.{legal_leaves_unwritten}
use Rattle.command_line.specs.Settings.{Settings}
use Rattle.launch_reading.specs.Launch.{Described, unknown, refuses, describes, words_describe, inputs_with, history_with, AnswersDescribed, IsKnownAs, IsBuiltBy}
use Rattle.launch_reading.specs.Refusal.{words_line, memory_line, status_of}
use Rattle.launch_reading.specs.declared.refusal.LaunchRefusal.{LaunchRefusal}
use Rattle.launch_reading.specs.declared.refusal.LaunchRefusal.TheVariants.{Words, Input, TooLong, Program, Tree, LaunchText, Memory}
use Rattle.book_report.specs.Ends.{IsRecordOf}
use Rattle.book_report.specs.Growth.{Growth, FaultsRose, Wrote}
use Rattle.book_report.specs.declared.ends.RunEnd.{RunEnd}
use Rattle.book_report.specs.declared.ends.RunEnd.TheVariants.{Reported, StallReported, Unwritten, NotBegun, Lacking}
use Rattle.launch_run.specs.Answer.{IsAnswer}
use Rattle.launch_run.specs.Results.{Completes, HasFailed, HasReported, HasStalled, IsConfinedRecord, IsInputRefused, IsKept, IsProgramRefused, IsTextRefused, IsTreeRefused, LeavesUnwritten, status_number}
use Rattle.launch_run.specs.TopCall.{IsReportedEnd, IsTopEnd, finished_of, finished_run}
use Rattle.launch_run.specs.declared.top.Finished.{Finished}
use Rattle.launch_run.specs.declared.top.TopEnd.{TopEnd}
use Rattle.launch_run.specs.declared.top.TopEnd.TheVariants.{Refused, Ran}

-- ---- statuses

abbrev pub status_at : TopEnd → ℕ
status_at end = (finished_of end).status

-- the status of an ended run is 0 or 1
zero_or_one : (none : Bool) → ◌≡◌ {A = ℕ} (if none then 0 else 1) 0 ⊎ ◌≡◌ {A = ℕ} (if none then 0 else 1) 1
zero_or_one true = inl refl
zero_or_one false = inr refl

pub status_is_small : (status : Option Status) → (status_number status ≡ 0) ⊎ (status_number status ≡ 1)
status_is_small None = inr refl
status_is_small (Some Live) = inr refl
status_is_small (Some (Exit code)) = zero_or_one (code == 0)
status_is_small (Some (Killed signal)) = inr refl

not_small : (n : ℕ) → (n ≡ 0) ⊎ (n ≡ 1) → 1 < n → ⊥
not_small n (inl is) more = omega arith
not_small n (inr is) more = omega arith

no_ended : (n : ℕ) → 1 < n → (status : Option Status) → status_number status ≡ n → ⊥
no_ended n more status is = not_small n (subst (λ (m : ℕ). (m ≡ 0) ⊎ (m ≡ 1)) is (status_is_small status)) more

small_kept : (n : ℕ) → (n ≡ 0) ⊎ (n ≡ 1) → (n ≡ 0) ⊎ (n ≡ 1) ⊎ (n ≡ 69) ⊎ (n ≡ 70) ⊎ (n ≡ 71)
small_kept n (inl is) = inl is
small_kept n (inr is) = inr (inl is)

kept_status : (end : TopEnd) → IsSome (finished_of end).kept
    → (status_at end ≡ 0) ⊎ (status_at end ≡ 1) ⊎ (status_at end ≡ 69) ⊎ (status_at end ≡ 70) ⊎ (status_at end ≡ 71)
kept_status (Ran (Reported r status)) kept = small_kept (status_number status) (status_is_small status)
kept_status (Ran (StallReported r)) kept = inr (inr (inr (inr refl)))
kept_status (Ran (Unwritten r)) kept = inr (inr (inl refl))
kept_status (Ran (Lacking r)) kept = inr (inr (inr (inl refl)))
kept_status _ kept = absurd (cc)

-- lack of memory has a status of its own
memory_status : (refusal : LaunchRefusal) → ◌≡◌ {A = Result Launch LaunchRefusal} (Err refusal) (Err Memory) → status_of refusal ≡ 70
memory_status refusal is = let same : refusal ≡ Memory = cc in ap status_of same

-- ---- the records of a run

proper : (launch : Launch) (all : Bool) (r : Record) → IsRecordOf launch all r → MayBegin launch.tree launch.grants → MayBegin r.launch.tree r.launch.grants
proper launch all r of begins = subst (λ (l : Launch). MayBegin l.tree l.grants) (sym of.launch_is) begins

-- what each legal history of a launch with proper grants is, the record of a run is
lawful : (P : Launch → List Entry → Type 0) → ((launch : Launch) (history : List Entry) → MayBegin launch.tree launch.grants → Legal launch history → P launch history)
    → (launch : Launch) (all : Bool) (r : Record) → IsRecordOf launch all r → MayBegin launch.tree launch.grants → P r.launch r.history
lawful P law launch all r of begins = law r.launch r.history (proper launch all r of begins) of.legal

-- a record of a run is as every record that is kept
is_kept : (given : Option Settings) (described : Described) (launch : Launch) (r : Record) → IsRecordOf launch (history_with given) r
    → IsKnownAs described (describes launch) → IsBuiltBy given launch → MayBegin launch.tree launch.grants → IsKept given described r
is_kept given described launch r of known built begins =
    let may_begin = proper launch (history_with given) r of begins in
    record {
      legal = of.legal;
      confined = legal_is_confined r.launch r.history of.legal may_begin;
      recorded = legal_is_recorded r.launch r.history of.legal may_begin;
      short = history_is_short r.launch r.history may_begin of.legal;
      launch_described = subst (λ (l : Launch). IsKnownAs described (describes l)) (sym of.launch_is) known;
      built = subst (IsBuiltBy given) (sym of.launch_is) built;
      kept_is = of.kept_is;
    }

-- ---- the whole call, clause by clause

module _ (given : Option Settings) (content : List ℕ → InputContent) (rose : Type 0) (text : Record → List ℕ) (growth : Growth) where
  -- what holds of each record of the run holds of the record that is kept
  top_record : (P : Record → Type 0)
      → ((launch : Launch) (r : Record) → IsRecordOf launch (history_with given) r → IsKnownAs (words_describe given content) (describes launch)
      → IsBuiltBy given launch → MayBegin launch.tree launch.grants → P r)
      → (end : TopEnd) → IsTopEnd given content rose text growth end → IfSome (finished_of end).kept P
  top_record P holds (Ran (Reported r status)) o = holds o.launch r o.end_reported.0 o.described o.built o.begins
  top_record P holds (Ran (StallReported r)) o = holds o.launch r o.end_reported.0 o.described o.built o.begins
  top_record P holds (Ran (Unwritten r)) o = holds o.launch r o.end_reported.0 o.described o.built o.begins
  top_record P holds (Ran (Lacking r)) o = holds o.launch r o.end_reported.0 o.described o.built o.begins
  top_record P holds _ o = tt

  pub top_input : (end : TopEnd) → IsTopEnd given content rose text growth end → status_at end ≡ 66
      → IsInputRefused (inputs_with given) (words_describe given content) rose growth
  top_input (Refused (Input name)) o is = (name.now, o.0.input.0, inl (o.0.input.1, o.1))
  top_input (Refused (TooLong name)) o is = (name.now, o.0.too_long, inr (o.0.refused tt, o.1))
  top_input (Ran (Reported r status)) o is = absurd (no_ended 66 (omega arith) status is)
  top_input _ o is = absurd (omega arith)

  top_program : (end : TopEnd) → IsTopEnd given content rose text growth end → status_at end ≡ 67 → IsProgramRefused (words_describe given content) growth
  top_program (Refused (Program found)) o is = (found, o.0.refused tt, o.1)
  top_program (Ran (Reported r status)) o is = absurd (no_ended 67 (omega arith) status is)
  top_program _ o is = absurd (omega arith)

  top_tree : (end : TopEnd) → IsTopEnd given content rose text growth end → status_at end ≡ 68 → IsTreeRefused (words_describe given content) growth
  top_tree (Refused (Tree byte)) o is = (byte, o.0.refused tt, o.1)
  top_tree (Ran (Reported r status)) o is = absurd (no_ended 68 (omega arith) status is)
  top_tree _ o is = absurd (omega arith)

  top_text : (end : TopEnd) → IsTopEnd given content rose text growth end → status_at end ≡ 65 → IsTextRefused (words_describe given content) growth
  top_text (Refused (LaunchText fault)) o is = (fault, o.0.refused tt, o.1)
  top_text (Ran (Reported r status)) o is = absurd (no_ended 65 (omega arith) status is)
  top_text _ o is = absurd (omega arith)

  -- ---- the words

  -- what the status 2 says
  pub record HasRefusedWords : Type 0 where
    pub none_given : given ≡ None
    pub wrote : Wrote growth words_line

  pub top_words : (end : TopEnd) → IsTopEnd given content rose text growth end → status_at end ≡ 2 → HasRefusedWords
  top_words (Refused Words) o is = record { none_given = o.0.words_refused refl; wrote = o.1 }
  top_words (Ran (Reported r status)) o is = absurd (no_ended 2 (omega arith) status is)
  top_words _ o is = absurd (omega arith)

  words_status : (refusal : LaunchRefusal) → (refusal ≡ Words) ⊎ (refusal ≡ Memory) → (status_of refusal ≡ 2) ⊎ (status_of refusal ≡ 70)
  words_status refusal (inl is) = inl (ap status_of is)
  words_status refusal (inr is) = inr (ap status_of is)

  pub top_words_refused : (end : TopEnd) → IsTopEnd given content rose text growth end → given ≡ None → (status_at end ≡ 2) ⊎ (status_at end ≡ 70)
  top_words_refused (Refused refusal) o none = words_status refusal (o.0.words_answered none)
  top_words_refused (Ran end) o none = absurd (subst (λ g. IsBuiltBy g o.launch) none o.built)

  -- ---- lack of memory, and runs that are over

  top_memory : (end : TopEnd) → IsTopEnd given content rose text growth end → status_at end ≡ 70
      → Wrote growth memory_line × IfSome (finished_of end).kept (λ r. r.history ≢ [])
  top_memory (Refused Memory) o is = (o.1, tt)
  top_memory (Ran (Reported r status)) o is = absurd (no_ended 70 (omega arith) status is)
  top_memory (Ran NotBegun) o is = (o.end_reported, tt)
  top_memory (Ran (Lacking r)) o is = (o.end_reported.2, o.end_reported.1)
  top_memory _ o is = absurd (omega arith)

  top_ended : (end : TopEnd) → IsTopEnd given content rose text growth end → (status_at end ≡ 0) ⊎ (status_at end ≡ 1)
      → IsSomeAnd (finished_of end).kept (HasReported text growth (status_at end))
  top_ended (Ran (Reported r status)) o is =
      record { ended = o.end_reported.1; status_is = ap status_number o.end_reported.2; written = o.end_reported.3 }
  top_ended (Refused Words) o is = absurd (not_small 2 is (omega arith))
  top_ended end o is = absurd (not_small _ is (omega arith))

  top_stalled : (end : TopEnd) → IsTopEnd given content rose text growth end → status_at end ≡ 71 → IsSomeAnd (finished_of end).kept (HasStalled text growth)
  top_stalled (Refused Words) o is = absurd (omega arith)
  top_stalled (Ran (Reported r status)) o is = absurd (no_ended 71 (omega arith) status is)
  top_stalled (Ran (StallReported r)) o is = record { stalled = o.end_reported.1; written = o.end_reported.2 }
  top_stalled _ o is = absurd (omega arith)

  top_unwritten : (end : TopEnd) → IsTopEnd given content rose text growth end → status_at end ≡ 69
      → FaultsRose growth × IsSomeAnd (finished_of end).kept (HasFailed text growth)
  top_unwritten (Refused Words) o is = absurd (omega arith)
  top_unwritten (Ran (Reported r status)) o is = absurd (no_ended 69 (omega arith) status is)
  top_unwritten (Ran (Unwritten r)) o is = (o.end_reported.2, record { over = o.end_reported.1; prefix = o.end_reported.3 })
  top_unwritten _ o is = absurd (omega arith)

  -- ---- what is described is answered

  -- a refusal that is described, or lack of memory
  completes_refused : (described : Described) (refusal : LaunchRefusal) → AnswersDescribed described (Err refusal)
      → (status_of refusal ≡ 70) ⊎ Completes described growth (status_of refusal)
  completes_refused unknown refusal h = inr tt
  completes_refused (refuses status line) refusal (inl memory) = inl (ap status_of memory)
  completes_refused (refuses status line) refusal (inr is) = inr is.0
  completes_refused (describes launch) refusal (inl is) = absurd (cc)
  completes_refused (describes launch) refusal (inr memory) = inl (memory_status refusal memory)

  -- how a run may end where the sink's count did not rise
  calm_end : (launch other : Launch) (end : RunEnd) → IsReportedEnd launch (history_with given) text growth end
      → ((finished_run end).status ≡ 70) ⊎ Completes (describes other) growth (finished_run end).status
  calm_end launch other (Reported r status) o = inr (λ calm. elim (status_is_small status) [ inl h ↦ inl h | inr h ↦ inr (inl h) ])
  calm_end launch other (StallReported r) o = inr (λ calm. inr (inr refl))
  calm_end launch other (Unwritten r) o = inr (λ calm. absurd (calm o.2))
  calm_end launch other NotBegun o = inl refl
  calm_end launch other (Lacking r) o = inl refl

  completes_run : (described : Described) (launch : Launch) (end : RunEnd) → AnswersDescribed described (Ok launch)
      → IsReportedEnd launch (history_with given) text growth end → ((finished_run end).status ≡ 70) ⊎ Completes described growth (finished_run end).status
  completes_run unknown launch end h o = inr tt
  completes_run (refuses status line) launch end h o = absurd h
  completes_run (describes other) launch end h o = calm_end launch other end o

  top_complete : (end : TopEnd) → IsTopEnd given content rose text growth end → ¬ rose
      → (status_at end ≡ 70) ⊎ Completes (words_describe given content) growth (status_at end)
  top_complete (Refused refusal) o calm = completes_refused (words_describe given content) refusal (o.0.complete calm)
  top_complete (Ran end) o calm = completes_run (words_describe given content) o.launch end (o.complete calm) o.end_reported

  -- ---- the answer

  pub answers : (end : TopEnd) → IsTopEnd given content rose text growth end
      → IsAnswer (λ P. P given (words_describe given content)) rose text growth (finished_of end)
  answers end o = record {
    words_line = λ is. (top_words end o is).wrote;
    program = top_program end o;
    tree = top_tree end o;
    launch_text = top_text end o;
    memory = top_memory end o;
    ended = top_ended end o;
    stalled = top_stalled end o;
    unwritten = top_unwritten end o;
    headline =
        top_record IsConfinedRecord (λ launch r of known built begins. lawful IsConfinedHistory legal_is_confined_history launch (history_with given) r of begins) end o;
    unwritten_stays =
        top_record LeavesUnwritten (λ launch r of known built begins. lawful UnwrittenStays legal_leaves_unwritten launch (history_with given) r of begins) end o;
    kept = top_record (IsKept given (words_describe given content)) (is_kept given (words_describe given content)) end o;
    none_kept = kept_status end;
    complete = top_complete end o;
  }

-- ---- the answer where more or less is known of what is described

module _ (Of : (Option Settings → Described → Type 0) → Type 0) (text : Record → List ℕ) (growth : Growth) where
  or_complete : (P Q : Type 0) (status : ℕ) → (P → Q) → (status ≡ 70) ⊎ P → (status ≡ 70) ⊎ Q
  or_complete P Q status weaker (inl is) = inl is
  or_complete P Q status weaker (inr h) = inr (weaker h)

  -- the answer to these settings and this description, where no fault came, is one to all of which they are
  pub answers_of : (given : Option Settings) (described : Described) → ((P : Option Settings → Described → Type 0) → P given described → Of P)
      → (rose other : Type 0) → ¬ rose → (result : Finished) → IsAnswer (λ P. P given described) rose text growth result → IsAnswer Of other text growth result
  answers_of given described of rose other calm result h = record {
    words_line = h.words_line;
    program = λ is. of (λ g d. IsProgramRefused d growth) (h.program is);
    tree = λ is. of (λ g d. IsTreeRefused d growth) (h.tree is);
    launch_text = λ is. of (λ g d. IsTextRefused d growth) (h.launch_text is);
    memory = h.memory;
    ended = h.ended;
    stalled = h.stalled;
    unwritten = h.unwritten;
    headline = h.headline;
    unwritten_stays = h.unwritten_stays;
    kept =
        IfSome-weaker result.kept (IsKept given described) (λ r. Of (λ g d. IsKept g d r)) (λ r kept. of (λ g d. IsKept g d r) kept) h.kept;
    none_kept = h.none_kept;
    complete = λ _.
        or_complete (Completes described growth result.status) (Of (λ g d. Completes d growth result.status)) result.status
        (of (λ g d. Completes d growth result.status)) (h.complete calm);
  }

  -- memory ran out before anything was read
  pub lacks : (rose : Type 0) → Wrote growth memory_line → IsAnswer Of rose text growth (finished_of (Refused Memory))
  lacks rose wrote = record {
    words_line = λ is. absurd (omega arith);
    program = λ is. absurd (omega arith);
    tree = λ is. absurd (omega arith);
    launch_text = λ is. absurd (omega arith);
    memory = λ is. (wrote, tt);
    ended = λ is. absurd (not_small 70 is (omega arith));
    stalled = λ is. absurd (omega arith);
    unwritten = λ is. absurd (omega arith);
    headline = tt;
    unwritten_stays = tt;
    kept = tt;
    none_kept = kept_status (Refused Memory);
    complete = λ calm. inl refl;
  }
