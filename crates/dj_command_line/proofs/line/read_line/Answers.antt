use Rattle.std.proofs.Common.{◌≡◌, map, string_bytes, sym, ap, ◌∙◌, refl, subst, true, false, List, ℕ}
use Rattle.clap.specs.Words.{App, HasKind, app_of, is_simple, is_simple_and_free, matches_of, fault_of}
use Rattle.dj_command_line.specs.WordsApp.{app}
use Rattle.dj_command_line.proofs.Refusals.{refused}
use Rattle.dj_command_line.proofs.ByClap.{simple, free}
use Rattle.dj_command_line.proofs.line.read_line.Goals as goal

pub returns-in-Ok : goal.returns-in-Ok
returns-in-Ok c =
    let words : List (List ℕ) = map string_bytes c.args.words.now in
    let is_app : app_of c.in_ok-command.field-0 ≡ app = c.in_ok-command.ensures in
    record {
      some = (
        ap (λ (a : App). fault_of a words) (sym is_app) ∙ c.in-Ok.ensures.kinds (ap is_simple_and_free is_app ∙ free),
        (c.in-Ok.ensures.matches (ap is_simple is_app ∙ simple)).0 ∙ ap (λ (a : App). matches_of a words) is_app,
      );
    }

pub returns : goal.returns
returns c =
    let words : List (List ℕ) = map string_bytes c.args.words.now in
    let is_app : app_of c.in_ok-command.field-0 ≡ app = c.in_ok-command.ensures in
    record {
      some = λ none. refused c.in-Err.error (fault_of app words)
          (subst (λ (a : App). HasKind (fault_of a words) c.in-Err.error) is_app (c.in-Err.ensures.kinds (ap is_simple_and_free is_app ∙ free)))
          (λ memory.
          let same : c.eq.result ≡ true = rw (c.eq.ensures, c.kind.ensures, memory) refl in
          let other : c.eq.result ≡ false = c.if-eq.false in
          absurd cc) none;
    }
