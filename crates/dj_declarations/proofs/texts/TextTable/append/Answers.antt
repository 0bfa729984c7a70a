use Rattle.std.proofs.Common.{◌≡◌, ◌<◌, List, ℕ, Some, length, sym, subst, arith}
use Rattle.dj_declarations.specs.Texts.{number_in, texts_from, AreBefore}
use Rattle.dj_declarations.proofs.TextLaws.{Holds, holds_same, holds_more, keep_more, reported_more, on_both}
use Rattle.dj_declarations.proofs.texts.TextTable.append.Goals as goal

pub invariant_of-self-inside : goal.invariant_of-self-inside
invariant_of-self-inside c =
    let ends = c.self.inside.ends.items in
    let bytes = c.self.inside.bytes.items in
    let new_ends = c.push_text.new.ends.items in
    let new_bytes = c.push_text.new.bytes.items in
    let text = c.args.text.now in
    let holds : Holds c.self.inside.ends.items c.self.inside.bytes.items = record { few = c.self.inside.few; ended = c.self.inside.ended; ascend = c.self.inside.ascend } in
    let before : AreBefore (texts_from 0 c.self.inside.ends.items c.self.inside.bytes.items) c.args.text.now = subst (λ (ts : List (List ℕ)). AreBefore ts c.args.text.now) (sym c.self.view_is) c.requires in
    let is : c.in-Ok.number ≡ length c.self.inside.ends.items = omega (arith, c.in-Ok.ensures.1, c.len.ensures) in
    let few : c.in-Ok.number < 65536 = omega (arith, c.in-Ok.ensures.0, c.in-Ok.ensures.1) in
    let after : Holds c.push_text.new.ends.items c.push_text.new.bytes.items =
    on_both c.push_text.result _ _ _ _ (Holds c.push_text.new.ends.items c.push_text.new.bytes.items) c.push_text.ensures.ok c.push_text.ensures.err
    (λ bytes_is ends_is. holds_more ends bytes new_ends new_bytes text c.in-Ok.number holds before bytes_is ends_is is few)
    (λ bytes_is ends_is. holds_same ends bytes new_ends new_bytes holds bytes_is ends_is) in
    (after.few, (after.ended, (after.ascend, tt)))

pub returns-clause-reported : goal.returns-clause-reported
returns-clause-reported c =
    let ends = c.self.inside.ends.items in
    let bytes = c.self.inside.bytes.items in
    let holds : Holds c.self.inside.ends.items c.self.inside.bytes.items = record { few = c.self.inside.few; ended = c.self.inside.ended; ascend = c.self.inside.ascend } in
    let before : AreBefore (texts_from 0 c.self.inside.ends.items c.self.inside.bytes.items) c.args.text.now = subst (λ (ts : List (List ℕ)). AreBefore ts c.args.text.now) (sym c.self.view_is) c.requires in
    reported_more ends bytes c.push_text.new.ends.items c.push_text.new.bytes.items c.args.text.now c.in-Ok.number holds before c.in_ok-push_text.ensures.ok.0 c.in_ok-push_text.ensures.ok.1
    (omega (arith, c.in-Ok.ensures.1, c.len.ensures))

pub returns-clause-keeps : goal.returns-clause-keeps
returns-clause-keeps c text number found =
    let ends = c.self.inside.ends.items in
    let bytes = c.self.inside.bytes.items in
    let holds : Holds c.self.inside.ends.items c.self.inside.bytes.items = record { few = c.self.inside.few; ended = c.self.inside.ended; ascend = c.self.inside.ascend } in
    let before : AreBefore (texts_from 0 c.self.inside.ends.items c.self.inside.bytes.items) c.args.text.now = subst (λ (ts : List (List ℕ)). AreBefore ts c.args.text.now) (sym c.self.view_is) c.requires in
    keep_more ends bytes c.push_text.new.ends.items c.push_text.new.bytes.items c.args.text.now c.in-Ok.number holds before c.in_ok-push_text.ensures.ok.0 c.in_ok-push_text.ensures.ok.1
    text number (subst (λ (ts : List (List ℕ)). number_in ts text ≡ Some number) (sym c.self.view_is) found)
