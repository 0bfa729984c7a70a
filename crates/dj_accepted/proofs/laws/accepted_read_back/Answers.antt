use Rattle.dj_accepted.proofs.Methods.{are_rewritable}
use Rattle.dj_accepted.proofs.Quiet.{rewritten_quiet}
use Rattle.dj_accepted.proofs.laws.accepted_read_back.Goals as goal

pub returns : goal.returns
returns c = λ files classes program accepted is.
    let good = are_rewritable files classes program accepted is in
    record {
      reads = λ written side. c.program_read_back.ensures classes written program good side is;
      one = λ written other side read. c.no_other_program.ensures classes written program other good side is read;
      quiet = rewritten_quiet program (c.others_ask_nothing.ensures.deterministic classes program is);
    }
