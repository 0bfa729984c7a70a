-- Which lines a state lets begin: those whose first words it lets begin.
use Rattle.std.proofs.Common.{◌≡◌, ℕ, ℤ, Option, is_some, refl}
use Rattle.dj_names.specs.trusted.Types.{Name}
use Rattle.dj_asm_source.specs.trusted.Lines.{Label, Value, Frame, Operation, Catch, Labelled, Class, Version, Super, Implements, Field, Abstract, Method, Stack, Locals, Beside, Framed, Does, End}
use Rattle.dj_asm_source.specs.Order.{State, AtClass, AtVersion, AtSuper, AtInterfaces, AtFields, AtMethods, AtStack, AtLocals, InBody, InFrame, after}
use Rattle.dj_asm_source.specs.LineReading.{ClassLine, VersionLine, SuperLine, ImplementsLine, FieldLine, AbstractLine, MethodLine, StackLine, LocalsLine, CatchLine, FrameLine, EndLine, LabelLine, OperationLine, may_begin}

pub after_class : (state : State) (flags : ℕ) (name : Name) → is_some (after state (Class flags name)) ≡ may_begin state ClassLine
after_class AtClass flags name = refl
after_class AtVersion flags name = refl
after_class AtSuper flags name = refl
after_class AtInterfaces flags name = refl
after_class AtFields flags name = refl
after_class AtMethods flags name = refl
after_class AtStack flags name = refl
after_class AtLocals flags name = refl
after_class InBody flags name = refl
after_class InFrame flags name = refl

pub after_version : (state : State) (major minor : ℤ) → is_some (after state (Version major minor)) ≡ may_begin state VersionLine
after_version AtClass major minor = refl
after_version AtVersion major minor = refl
after_version AtSuper major minor = refl
after_version AtInterfaces major minor = refl
after_version AtFields major minor = refl
after_version AtMethods major minor = refl
after_version AtStack major minor = refl
after_version AtLocals major minor = refl
after_version InBody major minor = refl
after_version InFrame major minor = refl

pub after_super : (state : State) (name : Name) → is_some (after state (Super name)) ≡ may_begin state SuperLine
after_super AtClass name = refl
after_super AtVersion name = refl
after_super AtSuper name = refl
after_super AtInterfaces name = refl
after_super AtFields name = refl
after_super AtMethods name = refl
after_super AtStack name = refl
after_super AtLocals name = refl
after_super InBody name = refl
after_super InFrame name = refl

pub after_implements : (state : State) (name : Name) → is_some (after state (Implements name)) ≡ may_begin state ImplementsLine
after_implements AtClass name = refl
after_implements AtVersion name = refl
after_implements AtSuper name = refl
after_implements AtInterfaces name = refl
after_implements AtFields name = refl
after_implements AtMethods name = refl
after_implements AtStack name = refl
after_implements AtLocals name = refl
after_implements InBody name = refl
after_implements InFrame name = refl

pub after_field : (state : State) (flags : ℕ) (name desc : Name) (value : Option Value) → is_some (after state (Field flags name desc value)) ≡ may_begin state FieldLine
after_field AtClass flags name desc value = refl
after_field AtVersion flags name desc value = refl
after_field AtSuper flags name desc value = refl
after_field AtInterfaces flags name desc value = refl
after_field AtFields flags name desc value = refl
after_field AtMethods flags name desc value = refl
after_field AtStack flags name desc value = refl
after_field AtLocals flags name desc value = refl
after_field InBody flags name desc value = refl
after_field InFrame flags name desc value = refl

pub after_abstract : (state : State) (flags : ℕ) (name desc : Name) → is_some (after state (Abstract flags name desc)) ≡ may_begin state AbstractLine
after_abstract AtClass flags name desc = refl
after_abstract AtVersion flags name desc = refl
after_abstract AtSuper flags name desc = refl
after_abstract AtInterfaces flags name desc = refl
after_abstract AtFields flags name desc = refl
after_abstract AtMethods flags name desc = refl
after_abstract AtStack flags name desc = refl
after_abstract AtLocals flags name desc = refl
after_abstract InBody flags name desc = refl
after_abstract InFrame flags name desc = refl

pub after_method : (state : State) (flags : ℕ) (name desc : Name) → is_some (after state (Method flags name desc)) ≡ may_begin state MethodLine
after_method AtClass flags name desc = refl
after_method AtVersion flags name desc = refl
after_method AtSuper flags name desc = refl
after_method AtInterfaces flags name desc = refl
after_method AtFields flags name desc = refl
after_method AtMethods flags name desc = refl
after_method AtStack flags name desc = refl
after_method AtLocals flags name desc = refl
after_method InBody flags name desc = refl
after_method InFrame flags name desc = refl

pub after_stack : (state : State) (n : ℤ) → is_some (after state (Stack n)) ≡ may_begin state StackLine
after_stack AtClass n = refl
after_stack AtVersion n = refl
after_stack AtSuper n = refl
after_stack AtInterfaces n = refl
after_stack AtFields n = refl
after_stack AtMethods n = refl
after_stack AtStack n = refl
after_stack AtLocals n = refl
after_stack InBody n = refl
after_stack InFrame n = refl

pub after_locals : (state : State) (n : ℤ) → is_some (after state (Locals n)) ≡ may_begin state LocalsLine
after_locals AtClass n = refl
after_locals AtVersion n = refl
after_locals AtSuper n = refl
after_locals AtInterfaces n = refl
after_locals AtFields n = refl
after_locals AtMethods n = refl
after_locals AtStack n = refl
after_locals AtLocals n = refl
after_locals InBody n = refl
after_locals InFrame n = refl

pub after_catch : (state : State) (class : Option Name) (from to handler : Label) → is_some (after state (Beside (Catch class from to handler))) ≡ may_begin state CatchLine
after_catch AtClass class from to handler = refl
after_catch AtVersion class from to handler = refl
after_catch AtSuper class from to handler = refl
after_catch AtInterfaces class from to handler = refl
after_catch AtFields class from to handler = refl
after_catch AtMethods class from to handler = refl
after_catch AtStack class from to handler = refl
after_catch AtLocals class from to handler = refl
after_catch InBody class from to handler = refl
after_catch InFrame class from to handler = refl

pub after_frame : (state : State) (f : Frame) → is_some (after state (Framed f)) ≡ may_begin state FrameLine
after_frame AtClass f = refl
after_frame AtVersion f = refl
after_frame AtSuper f = refl
after_frame AtInterfaces f = refl
after_frame AtFields f = refl
after_frame AtMethods f = refl
after_frame AtStack f = refl
after_frame AtLocals f = refl
after_frame InBody f = refl
after_frame InFrame f = refl

pub after_end : (state : State) → is_some (after state End) ≡ may_begin state EndLine
after_end AtClass = refl
after_end AtVersion = refl
after_end AtSuper = refl
after_end AtInterfaces = refl
after_end AtFields = refl
after_end AtMethods = refl
after_end AtStack = refl
after_end AtLocals = refl
after_end InBody = refl
after_end InFrame = refl

pub after_label : (state : State) (defined : Label) → is_some (after state (Beside (Labelled defined))) ≡ may_begin state (LabelLine defined)
after_label AtClass defined = refl
after_label AtVersion defined = refl
after_label AtSuper defined = refl
after_label AtInterfaces defined = refl
after_label AtFields defined = refl
after_label AtMethods defined = refl
after_label AtStack defined = refl
after_label AtLocals defined = refl
after_label InBody defined = refl
after_label InFrame defined = refl

pub after_operation : (state : State) (op : ℕ) (o : Operation) → is_some (after state (Does o)) ≡ may_begin state (OperationLine op)
after_operation AtClass op o = refl
after_operation AtVersion op o = refl
after_operation AtSuper op o = refl
after_operation AtInterfaces op o = refl
after_operation AtFields op o = refl
after_operation AtMethods op o = refl
after_operation AtStack op o = refl
after_operation AtLocals op o = refl
after_operation InBody op o = refl
after_operation InFrame op o = refl
