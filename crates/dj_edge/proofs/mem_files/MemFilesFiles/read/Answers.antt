use Rattle.std.proofs.Common.{◌∙◌, ◌<◌, ◌≤◌, ℕ, List, length, Some, None, IsSomeAnd, sym, ap, subst, arith}
use Rattle.dj_edge.proofs.Lookup.{reported_by}
use Rattle.dj_edge.proofs.mem_files.MemFilesFiles.read.Goals as goal

pub returns-in_default-clause-says : goal.returns-in_default-clause-says
returns-in_default-clause-says c =
    reported_by None c.as_bytes.result.now c.args.path.now c.deref-2.result.now c.args.self.now.files.items c.in_default.ensures c.as_bytes.ensures.value c.deref-2.ensures.value

pub returns-then-len-most-clause-says : goal.returns-then-len-most-clause-says
returns-then-len-most-clause-says c =
    let bytes = c.in-Some.bytes.now.items in
    let reported = reported_by (Some bytes) c.as_bytes.result.now c.args.path.now c.deref-2.result.now c.args.self.now.files.items c.in-Some.ensures c.as_bytes.ensures.value c.deref-2.ensures.value in
    let longer : c.args.most < length bytes = omega (arith, c.len.ensures) in
    subst (λ o. IsSomeAnd o (λ (l : List ℕ). c.args.most < length l)) (sym reported) longer

pub returns-clause-says : goal.returns-clause-says
returns-clause-says c =
    let bytes = c.in-Some.bytes.now.items in
    let reported = reported_by (Some bytes) c.as_bytes.result.now c.args.path.now c.deref-2.result.now c.args.self.now.files.items c.in-Some.ensures c.as_bytes.ensures.value c.deref-2.ensures.value in
    let copied = c.in_ok-copy.ensures.items ∙ c.deref-3.ensures.value in
    let short : length bytes ≤ c.args.most = omega (arith, c.len.ensures) in
    (subst (λ (l : List ℕ). length l ≤ c.args.most) (sym copied) short, reported ∙ ap Some (sym copied))
