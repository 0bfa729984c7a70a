use Rattle.std.proofs.Common.{◌<◌, ◌≤◌, length, ap, sym, subst, ◌∙◌, arith}
use Rattle.dj_class.specs.trusted.ClassFile.{class_bytes}
use Rattle.dj_class.specs.Views.{class_of}
use Rattle.dj_rewritten.specs.TooLarge.{first_of_class}
use Rattle.dj_rewrite.specs.Answers.{WritesFile}
use Rattle.dj_rewrite.specs.Steps.{new_file}
use Rattle.dj_rewrite.proofs.NewMembers.{descs_length}
use Rattle.dj_rewrite.proofs.Files.{file_rewritten, no_large, written_file, told_large}
use Rattle.dj_rewrite.proofs.file.written.Goals as goal

pub new_bytes-requires-clause-descs : goal.new_bytes-requires-clause-descs
new_bytes-requires-clause-descs c = ap length c.requires.pool.descs_are ∙ descs_length (class_of c.args.view.now)

pub returns-then-size-gt-MOST_BYTES : goal.returns-then-size-gt-MOST_BYTES
returns-then-size-gt-MOST_BYTES c = λ program known each.
    let file = class_of c.args.view.now in
    let made = c.args.answers.now in
    let d = new_file file c.args.pool c.args.descs.now made in
    let is = file_rewritten program file known c.args.pool c.args.descs.now c.requires.pool made each c.requires.fit in
    let size = ap length c.as_slice-size.ensures ∙ ap length c.in_ok-bytes.ensures in
    let past : 67108864 < length (class_bytes d) = omega (arith, size) in
    c.in_ok-texts.ensures program (told_large program file known d (first_of_class file) made c.requires.pool.fits is past each c.requires.fit)

pub returns : goal.returns
returns c = λ program known each.
    let file = class_of c.args.view.now in
    let made = c.args.answers.now in
    let d = new_file file c.args.pool c.args.descs.now made in
    let is = file_rewritten program file known c.args.pool c.args.descs.now c.requires.pool made each c.requires.fit in
    let size = ap length c.as_slice-size.ensures ∙ ap length c.in_ok-bytes.ensures in
    let small : length (class_bytes d) ≤ 67108864 = omega (arith, size) in
    subst (WritesFile program file) (sym c.in_ok-bytes.ensures) (written_file program file known d c.requires.pool.fits (no_large program file known (first_of_class file) made each c.requires.fit) is small)
