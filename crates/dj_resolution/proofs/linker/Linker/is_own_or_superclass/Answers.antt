use Rattle.std.proofs.Common.{◌≡◌, ◌<◌, length, sym, ◌∙◌, subst}
use Rattle.dj_model.specs.trusted.Linking.{chain, is_among}
use Rattle.dj_resolution.specs.Linked.{Linked, class_name}
use Rattle.dj_resolution.proofs.Subclasses.{chain_numbers}
use Rattle.dj_resolution.proofs.linker.Linker.is_own_or_superclass.Goals as goal

pub is_own_or_superclass-requires-clause-there : goal.is_own_or_superclass-requires-clause-there
is_own_or_superclass-requires-clause-there c = subst (λ (linked : Linked). c.args.class < length linked.program) (sym c.self.view_is) c.requires.there

pub returns : goal.returns
returns c =
    subst (λ (linked : Linked). c.is_own_or_superclass.result ≡ is_among (chain linked.program (class_name linked.program c.args.class)) (class_name linked.program c.args.other)) c.self.view_is
    (c.is_own_or_superclass.ensures ∙ sym (chain_numbers c.self.inside.table c.args.class c.args.other c.names_differ.ensures
    (subst (λ (linked : Linked). c.args.class < length linked.program) (sym c.self.view_is) c.requires.there)
    (subst (λ (linked : Linked). c.args.other < length linked.program) (sym c.self.view_is) c.requires.other)))
