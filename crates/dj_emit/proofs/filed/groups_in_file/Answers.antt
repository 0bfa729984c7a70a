use Rattle.std.proofs.Common.{◌≡◌, ℕ, ◌<◌, ◌≤◌, List, length, sym, ap, subst, ◌∙◌, arith}
use Rattle.std.specs.List.{AllByRecursion}
use Rattle.dj_labels.specs.declared.labelled.Protected.{Protected}
use Rattle.dj_labels.specs.trusted.Labels.{IsRange}
use Rattle.dj_groups.specs.Groups.{Group, starts, owns}
use Rattle.dj_groups.specs.Grouped.{labels_in_groups}
use Rattle.dj_image.specs.Imaged.{program_of}
use Rattle.dj_emit.specs.declared.parts.GroupPart.{GroupPart}
use Rattle.dj_emit.specs.Parts.{groups_seen}
use Rattle.dj_emit.specs.Groups.{FitsSipush}
use Rattle.dj_emit.specs.Filed.{groups_in, rows_of}
use Rattle.dj_emit.proofs.PartFacts.{parts_fit}
use Rattle.dj_emit.proofs.FiledFacts.{parts_many, rows_are}
use Rattle.dj_emit.proofs.RowCounts.{few_told, many_told}
use Rattle.dj_emit.proofs.filed.groups_in_file.Goals as goal

pub has_few_rows-requires-clause-few : goal.has_few_rows-requires-clause-few
has_few_rows-requires-clause-few c =
    let many = parts_many (program_of c.args.image.now) c.args.pool.now c.args.labelled.now c.requires.code c.in_ok-parts.parts.items c.in_ok-parts.ensures in
    let same = ap length c.deref.ensures.value in
    omega (arith, many, same, c.requires.code.few)

pub has_few_rows-requires-clause-within : goal.has_few_rows-requires-clause-within
has_few_rows-requires-clause-within c =
    let many = parts_many (program_of c.args.image.now) c.args.pool.now c.args.labelled.now c.requires.code c.in_ok-parts.parts.items c.in_ok-parts.ensures in
    let same : length c.args.labelled.now.code ≡ length c.deref.result.now = sym many ∙ sym (ap length c.deref.ensures.value) in
    subst (λ (ranges : List Protected). AllByRecursion (IsRange (length c.deref.result.now)) ranges) (sym c.as_slice.ensures)
    (subst (λ (n : ℕ). AllByRecursion (IsRange n) c.args.labelled.now.ranges) same c.requires.code.well.ranges)

pub returns-then-not-branch-clause-code : goal.returns-then-not-branch-clause-code
returns-then-not-branch-clause-code c =
    let gs = groups_in (program_of c.args.image.now) c.args.pool.now c.args.labelled.now in
    let past = many_told c.in_ok-has_few_rows.field-0 _ c.in_ok-has_few_rows.ensures c.if-not-branch.true in
    let all = ap (λ (xs : List GroupPart). length (rows_of (groups_seen xs) c.as_slice.result.now)) c.deref.ensures.value in
    let seen = ap (λ (xs : List Group). length (rows_of xs c.as_slice.result.now)) c.in_ok-parts.ensures in
    let ranges = ap (λ (rs : List Protected). length (rows_of gs rs)) c.as_slice.ensures in
    omega (arith, past, all, seen, ranges, rows_are c.args.first gs c.args.labelled.now)

pub returns-then-not-branch-clause-fits : goal.returns-then-not-branch-clause-fits
returns-then-not-branch-clause-fits c = subst (AllByRecursion FitsSipush) c.in_ok-parts.ensures (parts_fit c.in_ok-parts.parts.items)

pub group_code-requires-clause-same : goal.group_code-requires-clause-same
group_code-requires-clause-same c =
    parts_many (program_of c.args.image.now) c.args.pool.now c.args.labelled.now c.requires.code c.in_ok-parts.parts.items c.in_ok-parts.ensures

pub returns-clause-code : goal.returns-clause-code
returns-clause-code c =
    let gs = groups_in (program_of c.args.image.now) c.args.pool.now c.args.labelled.now in
    let few = few_told c.in_ok-has_few_rows.field-0 _ c.in_ok-has_few_rows.ensures c.if-not-branch.false in
    let all = ap (λ (xs : List GroupPart). length (rows_of (groups_seen xs) c.as_slice.result.now)) c.deref.ensures.value in
    let seen = ap (λ (xs : List Group). length (rows_of xs c.as_slice.result.now)) c.in_ok-parts.ensures in
    let ranges = ap (λ (rs : List Protected). length (rows_of gs rs)) c.as_slice.ensures in
    record {
      code = c.in_ok-group_code.ensures.code ∙ ap (λ (xs : List Group). labels_in_groups c.args.first xs c.args.labelled.now) c.in_ok-parts.ensures;
      start = c.in_ok-group_code.ensures.start ∙ ap starts c.in_ok-parts.ensures;
      own = c.in_ok-group_code.ensures.own ∙ ap owns c.in_ok-parts.ensures;
      few = omega (arith, few, all, seen, ranges, rows_are c.args.first gs c.args.labelled.now);
    }

pub returns-clause-fits : goal.returns-clause-fits
returns-clause-fits c = subst (AllByRecursion FitsSipush) c.in_ok-parts.ensures (parts_fit c.in_ok-parts.parts.items)
