use Rattle.djvm_cli.proofs.TextReports.{text_assembled}
use Rattle.djvm_cli.proofs.assembling.report_of_text.Goals as goal

pub returns-in-Bytes-clause-right : goal.returns-in-Bytes-clause-right
returns-in-Bytes-clause-right g c =
    text_assembled c.args.path.now (g.F.Files.held c.args.files.now) c.in_ok-text.field-0 c.in_ok-text.ensures.reported c.in-Bytes.text c.deref.result.now c.assemble_text.result
    c.in-Bytes.is c.in_ok-text.ensures.short c.deref.ensures.value c.assemble_text.ensures.assembled
