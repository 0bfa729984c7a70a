use Rattle.std.proofs.Common.{◌≡◌, Bool, ◌*◌, ◌+◌, Option, ◌++◌, ◌<◌, get_or, length, List, sym, ap, subst, ◌∙◌}
use Rattle.std.proofs.lemmas.List.{with_items_is}
use Rattle.dj_program.specs.declared.code.MethodCode.{MethodCode}
use Rattle.dj_image.specs.Uses.{code_uses, SameMembers}
use Rattle.dj_image.proofs.UseLists.{none_listed, piece_step, no_piece_step, all_pieces}
use Rattle.dj_image.proofs.uses.class_uses.Goals as goal
use Rattle.dj_image.proofs.uses.class_uses.Goals.{in-Some+in_ok-note_code, in_default}

pub loop-code-init : goal.loop-code-init
loop-code-init c = none_listed (4 * (c.len.result + 256)) c.in_ok-seen.seen.items c.new-listed.result.items (c.in_ok-seen.ensures.items_if_clones_equal (λ y e. e)) c.new-listed.ensures.items

item : (c : goal.Joined-code) → get_or c.args.parts.now.codes.items c.loop-code.code-index c.code-item.result ≡ c.code-item.result
item c = ap (λ (xs : List (Option MethodCode)). get_or xs c.loop-code.code-index c.code-item.result) (sym c.deref-code-items.ensures.value) ∙ sym c.code-item.is

within : (c : goal.Joined-code) → c.loop-code.code-index < length c.args.parts.now.codes.items
within c = subst (λ (xs : List (Option MethodCode)). c.loop-code.code-index < length xs) c.deref-code-items.ensures.value c.loop-code-test.true

pub loop-code-preserved : goal.loop-code-preserved
loop-code-preserved c = elim c.match-code.branch [
  | in-Some+in_ok-note_code w ↦
      piece_step (code_uses c.args.parts.now.pool) c.args.parts.now.codes.items c.loop-code.code-index c.code-item.result c.loop-code.listed.items w.note_code.new.listed.items c.match-code.listed.items w.note_code.new.seen c.match-code.seen.items
      (within c) c.loop-code.invariant.1
      (λ all same. subst (λ (code : Option MethodCode). SameMembers w.note_code.new.listed.items (all ++ code_uses c.args.parts.now.pool code)) (sym (item c ∙ w.in-Some.is)) (w.in_ok-note_code.ensures.listed all same))
      w.in_ok-note_code.ensures.seen (ap (λ v. v.items) w.listed-is)
      (ap (λ v. v.items) w.seen-is ∙ with_items_is c.loop-code.seen w.note_code.new.seen (w.note_code.auto.seen ∙ ap (λ (xs : List Bool). length xs) w.deref_mut.ensures.value ∙ sym c.loop-code.seen.ok.0))
  | in_default w ↦
      no_piece_step (code_uses c.args.parts.now.pool) c.args.parts.now.codes.items c.loop-code.code-index c.code-item.result c.loop-code.listed.items c.match-code.listed.items c.loop-code.seen.items c.match-code.seen.items
      (within c) c.loop-code.invariant.1 (ap (code_uses c.args.parts.now.pool) (item c ∙ w.in_default.is)) c.loop-code.invariant.0 (ap (λ v. v.items) w.listed-is) (ap (λ v. v.items) w.seen-is)
]

pub returns : goal.returns
returns c = all_pieces (code_uses c.args.parts.now.pool) c.args.parts.now.codes.items c.deref-code-items.result.now c.loop-code.code-index c.loop-code.listed.items c.deref-code-items.ensures.value c.loop-code-test.false c.loop-code.invariant.1
