-- The code of a method that is whole.
use Rattle.std.proofs.Common.{ℕ, List, refl, sym, subst, Contains, arith}
use Rattle.dj_pool.specs.trusted.Pool.{Constant}
use Rattle.dj_class.specs.trusted.ClassFile.{MemberInfo}
use Rattle.dj_early_rules.specs.declared.code.WholeCode.{WholeCode}
use Rattle.dj_early_rules.specs.trusted.Code.{HasFrames}
use Rattle.dj_early_rules.specs.Passes.{bodies_in, IsWholeMethod}
use Rattle.dj_program.specs.trusted.Codes.{IsMethodCode}

pub whole_is : (pool : List Constant) (m : MemberInfo) (code : WholeCode) → IsWholeMethod pool m code
    → IsMethodCode pool m (record { max_stack = code.max_stack; max_locals = code.max_locals; labelled = code.labelled; frames = code.frames })
whole_is pool m code is = record {
  info = is.whole.info;
  own = record { body = is.body; own = subst (λ (xs : List (List ℕ)). Contains xs is.body) (sym is.one) (0, omega arith, refl); is = is.whole.is };
  stack = is.whole.whole.stack;
  locals = is.whole.whole.locals;
  labels = is.whole.whole.labels;
  frames =
      subst (λ (bodies : List (List ℕ)). HasFrames is.whole.info.code bodies code.frames) (sym is.whole.whole.maps)
      (subst (λ (bytes : List ℕ). HasFrames bytes (bodies_in code.map) code.frames) is.whole.whole.bytes is.whole.whole.frames);
}
