use Rattle.std.proofs.Common.{◌≡◌, ◌<◌, List, ℕ, Bool, true, false, Some, length, slice_get, refl, sym, ◌∙◌, ap, subst, inl, inr}
use Rattle.std.specs.Option.{option_map}
use Rattle.dj_names.specs.trusted.Types.{Name, same_name}
use Rattle.dj_model.specs.trusted.Types.{constructor_name}
use Rattle.dj_model.specs.trusted.Linking.{FoundMethod, special_method}
use Rattle.dj_declarations.specs.Members.{method_name}
use Rattle.dj_class_table.specs.Tables.{methods_at, method_there}
use Rattle.dj_member_index.specs.Calls.{IsCallTable}
use Rattle.dj_resolution.specs.Linked.{Linked, class_name}
use Rattle.dj_resolution.specs.Numbers.{SaysMethod}
use Rattle.dj_resolution.proofs.Selections.{own}
use Rattle.dj_resolution.proofs.Specials.{taken_above, taken_itself, is_false, is_true}
use Rattle.dj_resolution.proofs.linker.Linker.special_by.Goals as goal
use Rattle.dj_resolution.proofs.linker.Linker.special_by.Goals.{else-ne-via-then-ne+else-is_superclass, else-ne-via-else-ne}

pub method_name-name-requires-clause-there : goal.method_name-name-requires-clause-there
method_name-name-requires-clause-there c = subst (λ (linked : Linked). c.args.resolved.class < length linked.program) (sym c.self.view_is) c.requires.declared

pub method_name-name-requires-clause-within : goal.method_name-name-requires-clause-within
method_name-name-requires-clause-within c = subst (λ (linked : Linked). c.args.resolved.member < length (methods_at linked.program c.args.resolved.class)) (sym c.self.view_is) c.requires.within

pub is_superclass-requires-clause-there : goal.is_superclass-requires-clause-there
is_superclass-requires-clause-there c = subst (λ (linked : Linked). c.args.class < length linked.program) (sym c.self.view_is) c.requires.there

pub instance_method_like-requires-clause-there : goal.instance_method_like-requires-clause-there
instance_method_like-requires-clause-there c = subst (λ (linked : Linked). c.args.resolved.class < length linked.program) (sym c.self.view_is) c.requires.declared

pub instance_method_like-requires-clause-within : goal.instance_method_like-requires-clause-within
instance_method_like-requires-clause-within c = subst (λ (linked : Linked). c.args.resolved.member < length (methods_at linked.program c.args.resolved.class)) (sym c.self.view_is) c.requires.within

pub instance_method_like-requires-clause-class : goal.instance_method_like-requires-clause-class
instance_method_like-requires-clause-class c = subst (λ (linked : Linked). c.args.class < length linked.program) (sym c.self.view_is) c.requires.there

pub instance_method_like-requires-clause-calls : goal.instance_method_like-requires-clause-calls
instance_method_like-requires-clause-calls c = subst (λ (linked : Linked). IsCallTable linked.program c.args.calls.now) (sym c.self.view_is) c.requires.calls

pub returns-then-is_superclass : goal.returns-then-is_superclass
returns-then-is_superclass c =
    subst
    (λ (linked : Linked). (found : FoundMethod) → method_there linked.program c.args.resolved ≡ Some found
    → SaysMethod linked.program c.instance_method_like.result (special_method linked.program (class_name linked.program c.args.class) found))
    c.self.view_is
    (λ found there. taken_above c.self.inside.table c.args.class c.args.resolved found found.method.name found.method.desc c.names_differ.ensures
    (subst (λ (linked : Linked). c.args.class < length linked.program) (sym c.self.view_is) c.requires.there) (record { there = there; named = refl; described = refl })
    (option_map (method_there c.self.inside.table) c.instance_method_like.result)
    (subst (λ (n : Name). same_name n constructor_name ≡ false) (own c.self.inside.table c.args.resolved found there method_name c.method_name-name.result.now c.method_name-name.ensures)
    (subst (λ (text : List ℕ). same_name c.method_name-name.result.now text ≡ false) c.as_slice.ensures (is_false (same_name c.method_name-name.result.now c.as_slice.result.now) (sym c.if-ne.true ∙ c.ne.ensures))))
    (sym c.is_superclass.ensures ∙ c.if-is_superclass.true) (c.instance_method_like.ensures found there))

pub returns-else-ne : goal.returns-else-ne
returns-else-ne c =
    subst
    (λ (linked : Linked). (found : FoundMethod) → method_there linked.program c.args.resolved ≡ Some found
    → SaysMethod linked.program (Some c.args.resolved) (special_method linked.program (class_name linked.program c.args.class) found))
    c.self.view_is
    (λ found there. taken_itself c.self.inside.table c.args.class c.args.resolved found found.method.name found.method.desc c.names_differ.ensures
    (subst (λ (linked : Linked). c.args.class < length linked.program) (sym c.self.view_is) c.requires.there) (record { there = there; named = refl; described = refl })
    (elim c.else-ne.branch [
      | else-ne-via-then-ne+else-is_superclass w ↦ inr (sym w.is_superclass.ensures ∙ w.if-is_superclass.false)
      | else-ne-via-else-ne w ↦
          inl (subst (λ (n : Name). same_name n constructor_name ≡ true) (own c.self.inside.table c.args.resolved found there method_name c.method_name-name.result.now c.method_name-name.ensures)
          (subst (λ (text : List ℕ). same_name c.method_name-name.result.now text ≡ true) c.as_slice.ensures (is_true (same_name c.method_name-name.result.now c.as_slice.result.now) (sym w.if-ne.false ∙ c.ne.ensures))))
    ]))
