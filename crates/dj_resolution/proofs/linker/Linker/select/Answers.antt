use Rattle.std.proofs.Common.{◌≡◌, ◌<◌, ℕ, Option, Some, IfSome, length, sym, ap, subst}
use Rattle.dj_names.specs.declared.descriptor.Ty.{Ty}
use Rattle.dj_model.specs.trusted.Linking.{FoundMethod, member_class, select}
use Rattle.dj_class_table.specs.Tables.{class_number, methods_at, method_there}
use Rattle.dj_resolution.specs.Linked.{Linked, prefix_of}
use Rattle.dj_resolution.specs.Numbers.{SaysMethod}
use Rattle.dj_resolution.proofs.Selections.{select_numbers}
use Rattle.dj_resolution.proofs.linker.Linker.select.Goals as goal

pub selected_method-requires-clause-there : goal.selected_method-requires-clause-there
selected_method-requires-clause-there c = subst (λ (linked : Linked). c.args.resolved.class < length linked.program) (sym c.self.view_is) c.requires.there

pub selected_method-requires-clause-within : goal.selected_method-requires-clause-within
selected_method-requires-clause-within c = subst (λ (linked : Linked). c.args.resolved.member < length (methods_at linked.program c.args.resolved.class)) (sym c.self.view_is) c.requires.within

pub selected_method-requires-clause-class : goal.selected_method-requires-clause-class
selected_method-requires-clause-class c = subst (λ (linked : Linked). IfSome c.args.class (λ k. k < length linked.program)) (sym c.self.view_is) c.requires.class

pub returns : goal.returns
returns c =
    subst
    (λ (linked : Linked). (found : FoundMethod) (ty : Ty) → method_there linked.program c.args.resolved ≡ Some found → c.args.class ≡ class_number linked.program (member_class linked.prefix ty)
    → SaysMethod linked.program c.selected_method.result (select linked.program linked.prefix found ty))
    c.self.view_is
    (λ found ty there is. subst (λ (o : Option FoundMethod). SaysMethod c.self.inside.table c.selected_method.result o)
    (sym (select_numbers c.self.inside.table (prefix_of c.self.inside.base) found ty c.args.class is)) (c.selected_method.ensures found there))
