-- A launch that words and inputs describe can be started.
use Rattle.std.proofs.Common.{◌≡◌, ℕ, List, Result, Ok, Err, refl, sym, subst, arith}
use Rattle.elf_image.specs.Sound.{IsSound}
use Rattle.elf_image.proofs.FaultOrder.{image_sound}
use Rattle.run_types.specs.declared.launch.Launch.{Launch}
use Rattle.tree_model.specs.Grants.{MayBegin}
use Rattle.tree_model.specs.Tree.{Tree}
use Rattle.abi_base.specs.declared.grant.Grant.{Grant}
use Rattle.clock_random.proofs.Keystream.{is_whole}
use Rattle.launch_values.specs.Shape.{Shape}
use Rattle.launch_lines.specs.declared.fault.Fault.{Fault}
use Rattle.launch_yaml.specs.Document.{parse_at}
use Rattle.launch_plan.specs.declared.fault.PlanFault.{PlanFault}
use Rattle.launch_plan.specs.Plan.{plan_of}
use Rattle.launch_plan.proofs.Plans.{IsPlan, plan_is}
use Rattle.tree_document.proofs.StartTrees.{meaning_start}
use Rattle.command_line.specs.Settings.{Settings, IsWithin}
use Rattle.launch_reading.specs.Launch.{IsBuiltLaunch, times_of}
use Rattle.launch_reading.specs.LaunchText.{with_plan, with_document, planned_text}
use Rattle.call_codec.specs.Bounded.{IsBounded}
use Rattle.launch_reading.specs.declared.refusal.LaunchRefusal.{LaunchRefusal}
use Rattle.std.specs.Prelude.{IfOk}

-- what a launch text gives is a plan
same_plan : (p q : List ℕ × List Grant) → with_plan (Ok p) ≡ Ok q → p ≡ q
same_plan p q e = cc

module _ (tree : Tree) where
  with_plan_is : (x : Shape) (read : Result (List ℕ × List Grant) PlanFault) (planned : List ℕ × List Grant) → plan_of tree x ≡ read → with_plan read ≡ Ok planned
      → IsPlan tree planned
  with_plan_is x (Ok p) planned is e = subst (IsPlan tree) (same_plan p planned e) (plan_is tree x p is)
  with_plan_is x (Err fault) planned is e = absurd (cc)

  with_document_is : (read : Result Shape Fault) (planned : List ℕ × List Grant) → with_document tree read ≡ Ok planned → IsPlan tree planned
  with_document_is (Ok x) planned e = with_plan_is x (plan_of tree x) planned refl e
  with_document_is (Err fault) planned e = absurd (cc)

  pub text_plan_is : (text : List ℕ) (planned : List ℕ × List Grant) → planned_text tree text ≡ Ok planned → IsPlan tree planned
  unfolding planned_text
  text_plan_is text planned e = with_document_is (parse_at text) planned e

-- a launch that words and inputs describe begins with a tree, and grants what is there
begins : (settings : Settings) (launch : Launch) → IsBuiltLaunch settings launch → MayBegin launch.tree launch.grants
begins settings launch b = record {
  tree = meaning_start (times_of settings) b.document launch.tree b.tree (let short = b.short in omega arith);
  grants = (text_plan_is launch.tree b.text _ b.planned).1;
}

bounded : (settings : Settings) (launch : Launch) → IsWithin settings → IsBuiltLaunch settings launch → IsBounded launch
bounded settings launch within b =
    let image : IsSound launch.elf = subst IsSound (sym b.elf) (image_sound b.program b.sound) in
    record {
      begins = begins settings launch b;
      start = record { sound = image; short = omega (arith, (text_plan_is launch.tree b.text _ b.planned).0); whole = is_whole launch.constants.key 0 0 64 };
      epoch = omega (arith, b.epoch, within.epoch);
      turns = omega (arith, b.turns, within.turns.1);
    }

pub all_begin : (settings : Settings) (read : Result Launch LaunchRefusal) → IfOk read (IsBuiltLaunch settings) → IfOk read (λ launch. MayBegin launch.tree launch.grants)
all_begin settings (Ok launch) b = begins settings launch b
all_begin settings (Err refusal) b = tt

pub all_bounded : (settings : Settings) (read : Result Launch LaunchRefusal) → IsWithin settings → IfOk read (IsBuiltLaunch settings) → IfOk read IsBounded
all_bounded settings (Ok launch) within b = bounded settings launch within b
all_bounded settings (Err refusal) within b = tt
