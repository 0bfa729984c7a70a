use Rattle.std.proofs.Common.{◌∙◌, ℕ, true, false, List, take, string_bytes, refl, ap, subst, Bor}
use Rattle.std.specs.Global.{Vec}
use Rattle.std.proofs.lemmas.List.{take_all}
use Rattle.std.specs.FinMap.{find}
use Rattle.dj_edge.specs.InMemory.{files_in, PathsDiffer}
use Rattle.dj_edge.proofs.Listings.{text_cmp}
use Rattle.dj_edge.proofs.Lookup.{found_same, none_from_test, not_differ, differ_more}
use Rattle.dj_edge.proofs.stored.paths_differ.Goals as goal

pub returns-then-is_some : goal.returns-then-is_some
returns-then-is_some c =
    let prefix = take c.loop-index.index c.args.held.now in
    let x = c.index-held-index.result in
    let same = c.bytes_under.ensures ∙ ap (λ (l : List ℕ). find text_cmp l (files_in prefix)) c.as_bytes.ensures.value in
    let some = found_same (λ (bytes : Bor (Vec ℕ)). bytes.now.items) c.bytes_under.result (find text_cmp (string_bytes x.0) (files_in prefix)) true same c.if-is_some.ensures in
    (λ e. absurd cc, λ differ. absurd (not_differ c.args.held.now c.loop-index.index x c.loop-index-test.true c.index-held-index.is some differ))

pub loop-index-preserved : goal.loop-index-preserved
loop-index-preserved c =
    let prefix = take c.loop-index.index c.args.held.now in
    let x = c.index-held-index.result in
    let same = c.bytes_under.ensures ∙ ap (λ (l : List ℕ). find text_cmp l (files_in prefix)) c.as_bytes.ensures.value in
    let none = found_same (λ (bytes : Bor (Vec ℕ)). bytes.now.items) c.bytes_under.result (find text_cmp (string_bytes x.0) (files_in prefix)) false same c.if-is_some.ensures in
    differ_more c.args.held.now c.loop-index.index x c.loop-index-test.true c.index-held-index.is
    (none_from_test (find text_cmp (string_bytes x.0) (files_in prefix)) none) c.loop-index.invariant

pub returns : goal.returns
returns c =
    let all = take_all c.loop-index.index c.args.held.now c.loop-index-test.false in
    let differ : PathsDiffer (files_in c.args.held.now) = subst (λ l. PathsDiffer (files_in l)) all c.loop-index.invariant in
    (λ e. differ, λ h. refl)
