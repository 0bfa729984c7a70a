use Rattle.std.proofs.Common.{◌≡◌, ◌<◌, ℕ, Option, Some, IfSome, length, sym, ap, subst}
use Rattle.dj_names.specs.declared.descriptor.Ty.{Ty}
use Rattle.dj_model.specs.trusted.Linking.{FoundMethod, member_class, select}
use Rattle.dj_class_table.specs.Tables.{class_number, methods_at, method_there}
use Rattle.dj_member_index.specs.Calls.{IsCallTable}
use Rattle.dj_resolution.specs.Linked.{Linked, prefix_of}
use Rattle.dj_resolution.specs.Numbers.{SaysMethod}
use Rattle.dj_resolution.proofs.Selections.{select_numbers}
use Rattle.dj_resolution.proofs.linker.Linker.select_by.Goals as goal

pub selected_by-requires-clause-there : goal.selected_by-requires-clause-there
selected_by-requires-clause-there c = subst (λ (linked : Linked). c.args.resolved.class < length linked.program) (sym c.self.view_is) c.requires.there

pub selected_by-requires-clause-within : goal.selected_by-requires-clause-within
selected_by-requires-clause-within c = subst (λ (linked : Linked). c.args.resolved.member < length (methods_at linked.program c.args.resolved.class)) (sym c.self.view_is) c.requires.within

pub selected_by-requires-clause-class : goal.selected_by-requires-clause-class
selected_by-requires-clause-class c = subst (λ (linked : Linked). IfSome c.args.class (λ k. k < length linked.program)) (sym c.self.view_is) c.requires.class

pub selected_by-requires-clause-calls : goal.selected_by-requires-clause-calls
selected_by-requires-clause-calls c = subst (λ (linked : Linked). IsCallTable linked.program c.args.calls.now) (sym c.self.view_is) c.requires.calls

pub returns : goal.returns
returns c =
    subst
    (λ (linked : Linked). (found : FoundMethod) (ty : Ty) → method_there linked.program c.args.resolved ≡ Some found → c.args.class ≡ class_number linked.program (member_class linked.prefix ty)
    → SaysMethod linked.program c.selected_by.result (select linked.program linked.prefix found ty))
    c.self.view_is
    (λ found ty there is. subst (λ (o : Option FoundMethod). SaysMethod c.self.inside.table c.selected_by.result o)
    (sym (select_numbers c.self.inside.table (prefix_of c.self.inside.base) found ty c.args.class is)) (c.selected_by.ensures found there))
