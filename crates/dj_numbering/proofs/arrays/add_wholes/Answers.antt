use Rattle.std.proofs.Common.{ℕ, ◌<◌, subst, ap, ◌∙◌, ◌++◌, ◌∷◌, []}
use Rattle.dj_names.specs.trusted.Types.{Name}
use Rattle.dj_names.specs.declared.descriptor.Of.TheVariants as ofs
use Rattle.dj_numbering.specs.Kept.{whole_text}
use Rattle.dj_numbering.proofs.Wholes.{whole_more}
use Rattle.dj_numbering.proofs.arrays.add_wholes.Goals as goal

pub loop-class-preserved : goal.loop-class-preserved
loop-class-preserved c =
    whole_more c.args.table.now c.loop-class.class c.name_of.result.now c.args.wholes.now.items c.loop-class.wholes.items c.push.new.self.items (subst (λ (n : ℕ). c.loop-class.class < n) c.class_count-class-end.ensures.count c.loop-class-test.true) c.name_of.ensures c.loop-class.invariant
    (c.in_ok-push.ensures.items ∙ ap (λ (text : Name). c.loop-class.wholes.items ++ text ∷ []) (c.in_ok-whole_text.ensures ∙ ap (λ (name : Name). whole_text (ofs.Class name)) c.in_ok-name.ensures))
