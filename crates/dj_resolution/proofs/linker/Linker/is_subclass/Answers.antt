use Rattle.std.proofs.Common.{◌≡◌, ◌<◌, List, ℕ, length, sym, ◌∙◌, subst}
use Rattle.std.specs.Global.{Vec}
use Rattle.dj_model.specs.trusted.Linking.{is_subclass}
use Rattle.dj_resolution.specs.Linked.{Linked, class_name}
use Rattle.dj_resolution.specs.Numbers.{AreAbove, lists_of}
use Rattle.dj_resolution.proofs.Subclasses.{subclass_numbers}
use Rattle.dj_resolution.proofs.linker.Linker.is_subclass.Goals as goal

pub is_above-requires-clause-there : goal.is_above-requires-clause-there
is_above-requires-clause-there c = subst (λ (linked : Linked). c.args.class < length linked.program) (sym c.self.view_is) c.requires.there

pub is_above-requires-clause-above : goal.is_above-requires-clause-above
is_above-requires-clause-above c = subst (λ (lists : List (Vec ℕ)). AreAbove c.self.inside.table (lists_of lists)) (sym c.deref.ensures.value) c.self.invariant.above

pub returns : goal.returns
returns c =
    subst (λ (linked : Linked). c.is_above.result ≡ is_subclass linked.program (class_name linked.program c.args.class) (class_name linked.program c.args.ancestor)) c.self.view_is
    (c.is_above.ensures ∙ sym (subclass_numbers c.self.inside.table c.args.class c.args.ancestor c.names_differ.ensures
    (subst (λ (linked : Linked). c.args.class < length linked.program) (sym c.self.view_is) c.requires.there)
    (subst (λ (linked : Linked). c.args.ancestor < length linked.program) (sym c.self.view_is) c.requires.ancestor)))
