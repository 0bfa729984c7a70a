use Rattle.std.proofs.Common.{◌≡◌, ℕ, Option, Some, sym, ap, subst, ◌∙◌}
use Rattle.std.specs.Option.{option_map}
use Rattle.dj_names.specs.trusted.Types.{same_name}
use Rattle.dj_pool.specs.Views.{constant_of}
use Rattle.dj_early_rules.specs.trusted.Classes.{names_at}
use Rattle.dj_link_rules.specs.declared.name_numbers.NumberedName.{NumberedName}
use Rattle.dj_link_rules.specs.Constants.{static_in}
use Rattle.dj_link_rules.proofs.Resolving.{IsWithin, named, member_within, member_static, member_kept}
use Rattle.dj_link_rules.proofs.constants.member_of.Goals as goal

pub is_static_in-requires-clause-there : goal.is_static_in-requires-clause-there
is_static_in-requires-clause-there c =
    let n = named c.args.linker.now.program c.args.pool.now (constant_of c.args.entry) c.args.class c.in_ok-class.class c.requires.class c.in_ok-class.was in
    subst (IsWithin c.args.linker.now.program) (sym c.member_class.ensures) (member_within c.args.linker.now.program n.ty c.in_ok-class.class c.args.object n.is c.requires.object)

pub returns-clause-member : goal.returns-clause-member
returns-clause-member c =
    let n = named c.args.linker.now.program c.args.pool.now (constant_of c.args.entry) c.args.class c.in_ok-class.class c.requires.class c.in_ok-class.was in
    let name = c.in_ok-named.named.name.now in
    let desc = c.in_ok-named.named.desc.now in
    let names : Some (name, desc) ≡ names_at c.args.pool.now (constant_of c.args.entry) =
    sym (ap (option_map (λ (x : NumberedName). (x.name.now, x.desc.now))) c.in_ok-named.was) ∙ c.member_name.ensures.names in
    member_kept c.args.linker.now.program c.args.pool.now (constant_of c.args.entry) c.in_ok-class.class n name desc c.is_static_in.result c.eq.result c.eq-2.result
    names
    (c.is_static_in.ensures
    ∙ ap (λ (class : Option ℕ). static_in c.args.linker.now (constant_of c.args.entry) class name desc) c.member_class.ensures
    ∙ member_static c.args.linker.now (constant_of c.args.entry) n.ty c.in_ok-class.class c.args.object name desc c.requires.plain n.is c.requires.object)
    (c.eq.ensures ∙ ap (same_name name) c.as_slice.ensures)
    (c.eq-2.ensures ∙ ap (same_name name) c.as_slice-2.ensures)
