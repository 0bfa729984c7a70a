use Rattle.std.proofs.Common.{ℕ, ◌<◌, length, ◌∙◌, subst, sym, arith}
use Rattle.std.proofs.lemmas.List.{get_or_default}
use Rattle.dj_member_index.specs.Calls.{IsFirstLike}
use Rattle.dj_member_index.proofs.CallLaws.{all_placed, first_at}
use Rattle.dj_member_index.proofs.calls.CallTable.first_like.Goals as goal

pub unreachable-requires : goal.unreachable-requires
unreachable-requires c = all_placed c.args.table.now c.args.self.now c.requires.table c.args.class c.args.member c.requires.there c.requires.within (c.index_of.ensures.none c.in-None.is)

pub returns : goal.returns
returns c =
    let firsts = c.args.self.now.firsts.items in
    let long = c.requires.table.firsts_are.long in
    let placed = c.in-Some.ensures.some.within in
    let within : c.in-Some.at < length firsts = omega (arith, long, placed) in
    subst (λ (first : ℕ). IsFirstLike c.args.table.now c.args.class c.args.member first) (sym (c.index.ensures ∙ get_or_default firsts c.in-Some.at c.index.result.now 0 within))
    (first_at c.args.table.now c.args.self.now c.requires.table c.args.class c.args.member c.in-Some.at c.in-Some.ensures.some)
