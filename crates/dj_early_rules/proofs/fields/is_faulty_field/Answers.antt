use Rattle.std.proofs.Common.{◌≡◌, ◌∷◌, [], ℕ, List, Bor, map, get_or, sym, ap, ◌∙◌, arith, codes}
use Rattle.dj_class.specs.Members.{member_of}
use Rattle.dj_early_rules.specs.trusted.Attributes.{bodies_of, values_of}
use Rattle.dj_early_rules.proofs.NamedBodies.{only_body, no_bytes}
use Rattle.dj_early_rules.proofs.Judging.{one_value}
use Rattle.dj_early_rules.proofs.fields.is_faulty_field.Goals as goal

pub returns-in-len1 : goal.returns-in-len1
returns-in-len1 c =
    let body = (get_or c.as_slice-2.result.now 0 no_bytes).now in
    let one : values_of c.args.pool.now (member_of c.args.field.now) ≡ body ∷ [] =
    ap (bodies_of c.args.pool.now (codes "ConstantValue")) (sym c.as_slice.ensures) ∙ sym c.in_ok-bodies.ensures ∙ ap (map (λ (b : Bor (List ℕ)). b.now)) (sym c.as_slice-2.ensures.value) ∙ only_body c.as_slice-2.result.now no_bytes (omega arith) (omega arith) in
    one_value c.args.pool.now (member_of c.args.field.now) body c.is_value_for.result one c.is_value_for.ensures
