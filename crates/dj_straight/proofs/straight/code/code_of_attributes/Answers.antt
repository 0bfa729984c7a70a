use Rattle.std.proofs.Common.{◌≡◌, ◌∷◌, [], ℕ, List, Bor, map, get_or, sym, ap, ◌∙◌, codes, arith}
use Rattle.dj_class.specs.Parts.{attribute_of}
use Rattle.dj_straight.specs.Finds.{found_code}
use Rattle.dj_straight.specs.trusted.Straight.{bodies_of, IsStraightBody, HasStraightCode}
use Rattle.dj_straight.proofs.StraightCode.{ok_finds, body_attributes, body_short, only_body}
use Rattle.dj_straight.proofs.straight.code.code_of_attributes.Goals as goal

abbrev no_bytes : Bor (List ℕ)
no_bytes = record { ref_ptr = (0, 0); now = [] }

pub code_of_body-requires : goal.code_of_body-requires
code_of_body-requires c =
    let attributes = map attribute_of c.args.attributes.now in
    let body = (get_or c.as_slice.result.now 0 no_bytes).now in
    let one : bodies_of c.args.pool.now (codes "Code") attributes ≡ body ∷ [] =
    sym c.in_ok-bodies.ensures ∙ ap (map (λ (b : Bor (List ℕ)). b.now)) (sym c.as_slice.ensures.value) ∙ only_body c.as_slice.result.now no_bytes (omega arith) (omega arith) in
    body_short c.args.pool.now (codes "Code") attributes body c.requires one

pub returns-in-len1 : goal.returns-in-len1
returns-in-len1 c =
    let attributes = map attribute_of c.args.attributes.now in
    let body = (get_or c.as_slice.result.now 0 no_bytes).now in
    let one : bodies_of c.args.pool.now (codes "Code") attributes ≡ body ∷ [] =
    sym c.in_ok-bodies.ensures ∙ ap (map (λ (b : Bor (List ℕ)). b.now)) (sym c.as_slice.ensures.value) ∙ only_body c.as_slice.result.now no_bytes (omega arith) (omega arith) in
    let same = body_attributes c.args.pool.now attributes body one in
    ok_finds c.code_of_body.result found_code (IsStraightBody c.args.pool.now body) (HasStraightCode c.args.pool.now attributes) same.0 same.1 c.code_of_body.ensures
