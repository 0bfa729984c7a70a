use Rattle.std.proofs.Common.{◌≡◌, ◌<◌, ◌-◌, ℕ, length, get_or, take, drop, Some, sym, ap, ◌∙◌, rules, arith}
use Rattle.std.proofs.lemmas.List.{get_or_read}
use Rattle.dj_stack.specs.declared.parts.Kind.{Kind}
use Rattle.dj_stack.specs.declared.parts.Kind.TheVariants as kinds
use Rattle.dj_stack.specs.Parts.{value_by}
use Rattle.dj_stack.specs.Stacks.{longs_in}
use Rattle.dj_stack.proofs.Stacks.{count_of, found_at, longs_before}
use Rattle.dj_stack.proofs.stacked.Stacked.get.Goals as goal

pub returns : goal.returns
returns c =
    let stack = c.args.self.now in
    let ks = stack.kinds.items in
    let lows = stack.lows.items in
    let highs = stack.highs.items in
    let within : c.args.at < length ks = omega (arith, c.requires, count_of ks lows highs) in
    let place : c.from-at.result ≡ c.args.at = search rules in
    let kind : c.index.result.now ≡ get_or ks c.args.at kinds.Long = get_or_read ks c.args.at c.index.result.now within (c.index.ensures ∙ ap (λ (n : ℕ). get_or ks n c.index.result.now) place) kinds.Long in
    let low : c.index-2.result.now ≡ get_or lows c.args.at 0 = get_or_read lows c.args.at c.index-2.result.now (omega (arith, within, stack.alike)) (c.index-2.ensures ∙ ap (λ (n : ℕ). get_or lows n c.index-2.result.now) place) 0 in
    let above : c.longs_from.result ≡ longs_in (drop c.args.at ks) = c.longs_from.ensures ∙ ap (λ (n : ℕ). longs_in (drop n ks)) place in
    let before : c.len.result - c.longs_from.result ≡ longs_in (take c.args.at ks) = omega (arith, c.len.ensures, above, longs_before ks highs c.args.at stack.counted) in
    let high : c.number_at.result ≡ get_or highs (longs_in (take c.args.at ks)) 0 = c.number_at.ensures ∙ ap (λ (n : ℕ). get_or highs n 0) before in
    found_at ks lows highs c.args.at kinds.Long within
    ∙ ap Some (ap (λ (k : Kind). value_by k (get_or lows c.args.at 0) (get_or highs (longs_in (take c.args.at ks)) 0)) (sym kind)
    ∙ (ap (λ (n : ℕ). value_by c.index.result.now n (get_or highs (longs_in (take c.args.at ks)) 0)) (sym low)
    ∙ (ap (λ (n : ℕ). value_by c.index.result.now c.index-2.result.now n) (sym high) ∙ sym c.value.ensures)))
