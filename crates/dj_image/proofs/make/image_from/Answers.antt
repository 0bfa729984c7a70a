use Rattle.std.proofs.Common.{sym, subst}
use Rattle.dj_image.specs.Parts.{FitClasses}
use Rattle.dj_image.proofs.Making.{of_classes}
use Rattle.dj_image.proofs.make.image_from.Goals as goal

pub tables_of-requires-clause-fit : goal.tables_of-requires-clause-fit
tables_of-requires-clause-fit c = subst (FitClasses c.args.types.program) (sym c.deref-2.ensures.value) c.requires.fit

pub invariant_of-result : goal.invariant_of-result
invariant_of-result c =
    let all = of_classes c.args.types c.deref-2.result.now c.args.parts.items c.deref.result.now c.args.texts.items c.in_ok-tables.tables c.deref-2.ensures.value c.deref.ensures.value c.in_ok-tables.ensures in
    record {
      fit = c.requires.fit;
      operands_are = all.operands_are;
      named_are = all.named_are;
      made_are = all.made_are;
      constants_are = all.constants_are;
      string = c.requires.string;
      chars = c.requires.chars;
      closed = c.requires.closed;
      numbered = c.requires.numbered;
      few = c.requires.few;
    }
