-- What the top call of a generated run answers, by the end of the call.
use Rattle.std.proofs.Common.{◌≡◌, ◌≢◌, ◌⊎◌, ℕ, List, inl, inr, refl, sym, ap, subst, ◌∙◌, arith}
use Rattle.std.specs.Prelude.{Option, None, Some}
use Rattle.input_output.specs.Source.{InputContent, Unknown, Rose}
use Rattle.command_line.specs.declared.generating.GenerateSettings.{GenerateSettings}
use Rattle.launch_reading.specs.Refusal.{too_long_line}
use Rattle.launch_reading.specs.declared.refusal.LaunchRefusal.TheVariants.{Words, Input, TooLong, Program, Tree, LaunchText, Memory}
use Rattle.book_report.specs.Growth.{Growth}
use Rattle.book_report.specs.Shown.{record_summary}
use Rattle.book_report.specs.declared.ends.RunEnd.TheVariants.{Reported, StallReported, Unwritten, NotBegun, Lacking}
use Rattle.launch_run.specs.Answer.{IsAnswer}
use Rattle.launch_run.specs.GeneratedCall.{IsGeneratedEnd, IsGeneratedRun, IsGeneratedStatus, OfGenerated, generated_content, generated_describe, processes_in, settings_for}
use Rattle.launch_run.specs.Results.{status_number}
use Rattle.launch_run.specs.TopCall.{IsRefusalOf, finished_of}
use Rattle.launch_run.specs.declared.top.TopEnd.{TopEnd}
use Rattle.launch_run.specs.declared.top.TopEnd.TheVariants.{Refused, Ran}
use Rattle.launch_run.proofs.GeneratedInputs.{no_input_refused, no_rise}
use Rattle.launch_run.proofs.TopAnswers.{answers, answers_of, lacks, status_at, status_is_small, top_input, top_words}

-- ---- the statuses

small_status : (n : ℕ) → (n ≡ 0) ⊎ (n ≡ 1) → IsGeneratedStatus n
small_status n (inl is) = inl is
small_status n (inr is) = inr (inl is)

other_status : (end : TopEnd) → status_at end ≢ 66 → IsGeneratedStatus (status_at end)
other_status (Refused Words) other = inr (inr (inl refl))
other_status (Refused (Input name)) other = absurd (other refl)
other_status (Refused (TooLong name)) other = absurd (other refl)
other_status (Refused (Program found)) other = inr (inr (inr (inr (inl refl))))
other_status (Refused (Tree byte)) other = inr (inr (inr (inr (inr (inl refl)))))
other_status (Refused (LaunchText fault)) other = inr (inr (inr (inl refl)))
other_status (Refused Memory) other = inr (inr (inr (inr (inr (inr (inr (inl refl)))))))
other_status (Ran (Reported r status)) other = small_status (status_number status) (status_is_small status)
other_status (Ran (StallReported r)) other = inr (inr (inr (inr (inr (inr (inr (inr refl)))))))
other_status (Ran (Unwritten r)) other = inr (inr (inr (inr (inr (inr (inl refl))))))
other_status (Ran NotBegun) other = inr (inr (inr (inr (inr (inr (inr (inl refl)))))))
other_status (Ran (Lacking r)) other = inr (inr (inr (inr (inr (inr (inr (inl refl)))))))

-- a refusal of words that give no numbers
words_refusal : (content : List ℕ → InputContent) → IsRefusalOf None content ⊥ Words
words_refusal content = record {
  words_refused = λ _. refl;
  words_answered = λ _. inl refl;
  input = tt;
  too_long = tt;
  refused = λ _. refl;
  complete = λ _. inr (refl, refl);
}

module _ (growth : Growth) (end : TopEnd) where
  -- the end is a refusal with another status
  refused_other : (refusal : TopEnd) (status other : ℕ) → end ≡ refusal → status_at refusal ≡ status → status_at end ≡ other → status ≡ other
  refused_other refusal status other is has at = sym has ∙ ap status_at (sym is) ∙ at

  not_66 : (numbers : GenerateSettings) → IsGeneratedRun numbers growth end → status_at end ≢ 66
  not_66 numbers run is =
      let refused = top_input (Some (settings_for numbers)) (generated_content run.generated) (Rose 0 0) (record_summary numbers.processes) growth end run.ends is in
      elim refused.2 [
        | inl unread ↦ no_rise unread.0
        | inr long ↦ no_input_refused numbers run.generated run.short (too_long_line refused.0) long.0
      ]

  pub gen_status : (given : Option GenerateSettings) → IsGeneratedEnd given growth end → IsGeneratedStatus (status_at end)
  gen_status None o = other_status end (λ is. let two = refused_other (Refused Words) 2 66 o.0 refl is in omega (arith, two))
  gen_status (Some numbers) (inl o) = other_status end (λ is. let two = refused_other (Refused Memory) 70 66 o.0 refl is in omega (arith, two))
  gen_status (Some numbers) (inr run) = other_status end (not_66 numbers run)

  pub gen_words : (given : Option GenerateSettings) → IsGeneratedEnd given growth end → status_at end ≡ 2 → given ≡ None
  gen_words None o is = refl
  gen_words (Some numbers) (inl o) is = let two = refused_other (Refused Memory) 70 2 o.0 refl is in absurd (omega (arith, two))
  gen_words (Some numbers) (inr run) is =
      let none = (top_words (Some (settings_for numbers)) (generated_content run.generated) (Rose 0 0) (record_summary numbers.processes) growth end run.ends is).none_given in
      absurd (cc)

  pub gen_words_refused : (given : Option GenerateSettings) → IsGeneratedEnd given growth end → given ≡ None → status_at end ≡ 2
  gen_words_refused None o none = ap status_at o.0
  gen_words_refused (Some numbers) o none = absurd (cc)

  -- ---- the answer: that of a run of what was generated, of the refusal of the words, or of lack of memory

  pub gen_answers : (given : Option GenerateSettings) → IsGeneratedEnd given growth end
      → IsAnswer (OfGenerated given) ⊥ (record_summary (processes_in given)) growth (finished_of end)
  gen_answers None o =
      subst (λ (e : TopEnd). IsAnswer (OfGenerated None) ⊥ (record_summary 0) growth (finished_of e)) (sym o.0)
      (answers None (λ name. Unknown) ⊥ (record_summary 0) growth (Refused Words) (words_refusal (λ name. Unknown), o.1))
  gen_answers (Some numbers) (inl o) =
      subst (λ (e : TopEnd). IsAnswer (OfGenerated (Some numbers)) ⊥ (record_summary numbers.processes) growth (finished_of e)) (sym o.0)
      (lacks (OfGenerated (Some numbers)) (record_summary numbers.processes) growth ⊥ o.1)
  gen_answers (Some numbers) (inr run) =
      answers_of (OfGenerated (Some numbers)) (record_summary numbers.processes) growth (Some (settings_for numbers)) (generated_describe numbers run.generated)
      (λ P holds. (run.generated, run.is, holds)) (Rose 0 0) ⊥ no_rise (finished_of end)
      (answers (Some (settings_for numbers)) (generated_content run.generated) (Rose 0 0) (record_summary numbers.processes) growth end run.ends)
