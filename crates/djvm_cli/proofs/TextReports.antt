-- From the file of a text to its report.
use Rattle.std.proofs.Common.{◌≡◌, ℕ, List, [], Option, Some, None, IfSome, IfOk, unwrap_or, sym, subst, inl, inr}
use Rattle.std.specs.Global.{Vec}
use Rattle.std.specs.Prelude.{Result}
use Rattle.dj_edge.specs.trusted.Held.{Held, bytes_at}
use Rattle.dj_edge.proofs.Lists.{reported_so, ok_so}
use Rattle.dj_report.specs.trusted.Stages.{IsDecided}
use Rattle.dj_report.specs.declared.report.Report.{Report}
use Rattle.dj_class_set.specs.trusted.Limits.{most_file_bytes}
use Rattle.djvm_cli.specs.declared.load.Input.{Input}
use Rattle.djvm_cli.specs.declared.load.Input.TheVariants as inputs
use Rattle.djvm_cli.specs.declared.load.Stop.{Stop}
use Rattle.djvm_cli.specs.Inputs.{IsShortInput, IsReadInput}
use Rattle.djvm_cli.specs.trusted.Report.{ReadsText, Assembles, text_stages}

abbrev Reads : List ℕ → Input → Held → Type 0
Reads path input h = IsReadInput most_file_bytes path (bytes_at h path) input

-- a text that was read is decided as it is assembled
pub text_assembled : (path : List ℕ) (held : Option Held) (input : Input) → IfSome held (λ h. IsReadInput most_file_bytes path (bytes_at h path) input)
    → (bytes : Vec ℕ) (text : List ℕ) (result : Result Report Stop) → input ≡ inputs.Bytes bytes → IsShortInput most_file_bytes input → text ≡ bytes.items
    → IfOk result (λ report. Assembles text (Some report)) → IfOk result (λ report. IfSome held (λ h. IsDecided (text_stages path h) report))
text_assembled path held input read bytes text result is short same assembled =
    ok_so result (λ report. Assembles text (Some report)) (λ report. IfSome held (λ h. IsDecided (text_stages path h) report))
    (λ report right.
    reported_so held (Reads path (inputs.Bytes bytes)) (λ h. IsDecided (text_stages path h) report)
    (λ h found. inr (
      subst (λ (f : Option (List ℕ)). ReadsText path f None) (sym found) (subst (IsShortInput most_file_bytes) is short),
      inl (subst (λ (f : Option (List ℕ)). Assembles (unwrap_or f []) (Some report)) (sym found) (subst (λ (t : List ℕ). Assembles t (Some report)) same right)),
    ))
    (subst (λ (i : Input). IfSome held (Reads path i)) is read))
    assembled
