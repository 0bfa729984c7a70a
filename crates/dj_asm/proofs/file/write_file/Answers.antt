use Rattle.std.proofs.Common.{ℕ, List, ◌-◌, length, map, take, drop, ap, ◌∙◌}
use Rattle.dj_class.specs.trusted.ClassFile.{class_bytes}
use Rattle.dj_asm_source.specs.LineViews.{line_view}
use Rattle.dj_asm.specs.Filing.{file_in}
use Rattle.dj_asm.proofs.FileLines.{has_code_lines, may_have_code, code_file}
use Rattle.dj_asm.proofs.file.write_file.Goals as goal

pub section_size-size-requires : goal.section_size-size-requires
section_size-size-requires c = has_code_lines c.requires.fitting.0 c.args.lines.now c.args.pool.now 0 c.requires.fitting.1

pub bodies_of-requires-clause-may : goal.bodies_of-requires-clause-may
bodies_of-requires-clause-may c =
    may_have_code c.requires.fitting.0 c.args.lines.now c.args.pool.now c.section_size-size.result c.requires.fitting.1 c.section_size-size.ensures.size

pub returns : goal.returns
returns c =
    let lines = c.args.lines.now in
    let kept = c.args.pool.now in
    let size = c.section_size-size.result in
    let head = map line_view (take size lines) in
    let methods = map line_view (take (length lines - size) (drop size lines)) in
    λ s fit. code_file s lines kept size fit c.in_ok-constants.constants.items c.in_ok-bodies.bodies.items c.in_ok-bytes.bytes c.section_size-size.ensures.size
    c.in_ok-constants.ensures c.in_ok-bodies.ensures
    (c.in_ok-bytes.ensures
    ∙ (ap (λ (constants : List (List ℕ)). class_bytes (file_in kept head methods constants c.as_slice-2.result.now)) c.as_slice.ensures.value
    ∙ ap (λ (bodies : List (List ℕ)). class_bytes (file_in kept head methods c.in_ok-constants.constants.items bodies)) c.as_slice-2.ensures.value))
