use Rattle.std.proofs.Common.{◌≡◌, ◌∙◌, codes}
use Rattle.clap.specs.Words.{found_of, rows_of, first_of}
use Rattle.clap.proofs.WalkLemmas.{first_value-rows}
use Rattle.dj_command_line.specs.Views.{text_given}
use Rattle.dj_command_line.proofs.options.Options.of.Goals as goal

pub returns : goal.returns
returns c =
    let found = found_of c.args.matches.now in
    let alloc : text_given c.get_str.result ≡ first_of (codes "alloc") (rows_of found) = c.get_str.ensures ∙ first_value-rows found (codes "alloc") in
    let invoke : text_given c.get_str-2.result ≡ first_of (codes "invoke") (rows_of found) = c.get_str-2.ensures ∙ first_value-rows found (codes "invoke") in
    let jump : text_given c.get_str-3.result ≡ first_of (codes "jump") (rows_of found) = c.get_str-3.ensures ∙ first_value-rows found (codes "jump") in
    let throw : text_given c.get_str-4.result ≡ first_of (codes "throw") (rows_of found) = c.get_str-4.ensures ∙ first_value-rows found (codes "throw") in
    let steps : text_given c.get_str-5.result ≡ first_of (codes "steps") (rows_of found) = c.get_str-5.ensures ∙ first_value-rows found (codes "steps") in
    (λ i. record { alloc = alloc i; invoke = invoke i; jump = jump i; throw = throw i; steps = steps i })
