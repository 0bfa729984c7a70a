use Rattle.std.proofs.Common.{◌≡◌, ◌<◌, List, ℕ, true, false, Some, length, sym, ◌∙◌, subst, inl, inr}
use Rattle.std.specs.Option.{option_map}
use Rattle.dj_names.specs.trusted.Types.{same_name}
use Rattle.dj_model.specs.trusted.Linking.{FoundMethod, special_method}
use Rattle.dj_declarations.specs.trusted.Files.{desc_in}
use Rattle.dj_class_table.specs.Tables.{method_there}
use Rattle.dj_resolution.specs.Linked.{Linked, class_name}
use Rattle.dj_resolution.specs.Numbers.{IsNamed, SaysMethod}
use Rattle.dj_resolution.proofs.Specials.{taken_above, taken_itself, is_false, is_true}
use Rattle.dj_resolution.proofs.linker.Linker.special_method.Goals as goal
use Rattle.dj_resolution.proofs.linker.Linker.special_method.Goals.{else-ne-via-then-ne+else-is_superclass, else-ne-via-else-ne}

pub instance_method_above-requires-clause-there : goal.instance_method_above-requires-clause-there
instance_method_above-requires-clause-there c = subst (λ (linked : Linked). c.args.class < length linked.program) (sym c.self.view_is) c.requires.there

pub is_superclass-requires-clause-there : goal.is_superclass-requires-clause-there
is_superclass-requires-clause-there c = subst (λ (linked : Linked). c.args.class < length linked.program) (sym c.self.view_is) c.requires.there

pub returns-then-is_superclass : goal.returns-then-is_superclass
returns-then-is_superclass c =
    subst
    (λ (linked : Linked). (found : FoundMethod) → IsNamed linked.program c.args.resolved found c.args.name.now (desc_in c.args.desc.now)
    → SaysMethod linked.program c.instance_method_above.result (special_method linked.program (class_name linked.program c.args.class) found))
    c.self.view_is
    (λ found named. taken_above c.self.inside.table c.args.class c.args.resolved found c.args.name.now (desc_in c.args.desc.now) c.names_differ.ensures
    (subst (λ (linked : Linked). c.args.class < length linked.program) (sym c.self.view_is) c.requires.there) named (option_map (method_there c.self.inside.table) c.instance_method_above.result)
    (subst (λ (text : List ℕ). same_name c.args.name.now text ≡ false) c.as_slice.ensures (is_false (same_name c.args.name.now c.as_slice.result.now) (sym c.if-ne.true ∙ c.ne.ensures)))
    (sym c.is_superclass.ensures ∙ c.if-is_superclass.true) c.instance_method_above.ensures)

pub returns-else-ne : goal.returns-else-ne
returns-else-ne c =
    subst
    (λ (linked : Linked). (found : FoundMethod) → IsNamed linked.program c.args.resolved found c.args.name.now (desc_in c.args.desc.now)
    → SaysMethod linked.program (Some c.args.resolved) (special_method linked.program (class_name linked.program c.args.class) found))
    c.self.view_is
    (λ found named. taken_itself c.self.inside.table c.args.class c.args.resolved found c.args.name.now (desc_in c.args.desc.now) c.names_differ.ensures
    (subst (λ (linked : Linked). c.args.class < length linked.program) (sym c.self.view_is) c.requires.there) named
    (elim c.else-ne.branch [
      | else-ne-via-then-ne+else-is_superclass w ↦ inr (sym w.is_superclass.ensures ∙ w.if-is_superclass.false)
      | else-ne-via-else-ne w ↦
          inl (subst (λ (text : List ℕ). same_name c.args.name.now text ≡ true) c.as_slice.ensures (is_true (same_name c.args.name.now c.as_slice.result.now) (sym w.if-ne.false ∙ c.ne.ensures)))
    ]))
