-- The program that rewriting makes.
use Rattle.std.specs.Prelude.{ℕ, ◌+◌, List, [], ◌∷◌, map, slice_get, Option, Some, None, pos}
use Rattle.std.specs.Option.{option_map}
use Rattle.std.specs.List.{flat_map}
use Rattle.dj_names.specs.declared.run.Value.TheVariants as values
use Rattle.dj_names.specs.trusted.Values.{element_size}
use Rattle.dj_names.specs.trusted.Types.{class_type}
use Rattle.dj_names.specs.Types.{in_sandbox}
use Rattle.dj_names.specs.trusted.Library.{LibraryMethod, stop_class}
use Rattle.dj_names.specs.Library.{below_object, accounter_class, accounter_methods}
use Rattle.dj_model.specs.trusted.Instructions.{Instruction, Nothing, Push, Move, Dup, Pop, Invoke, Static, Branch, Goto, Switch, Other}
use Rattle.dj_model.specs.trusted.Program.{Program, Code, Range}
use Rattle.dj_model.specs.trusted.Libraries.{library_class}
use Rattle.dj_model.specs.Program.{code_map, program_map}
use Rattle.dj_frames.specs.Moves.{moved_frame}
use Rattle.dj_groups.specs.Groups.{Counter, Jumps, Invocations, Throws, Allocations, Arrays, Catches, Inserted, Copy, ObjectBytes, ElementBytes, Record, Own, Kept, Popped, Group, groups_of, start, starts, owns, pieces, regrouped}

-- the place in the accounter's list of methods
abbrev pub place : Counter → ℕ
place Jumps = 0
place Invocations = 1
place Throws = 2
place Allocations = 3
place Arrays = 4
place Catches = 5

abbrev pub call_of : Option LibraryMethod → Instruction
call_of None = Other 184 Nothing
call_of (Some m) = Invoke Static (record { class = class_type accounter_class; name = m.name; desc = m.desc })

abbrev pub inserted_instruction : Inserted → Instruction
inserted_instruction Copy = Move Dup
inserted_instruction (ObjectBytes n) = Push (values.Int (pos n))
inserted_instruction (ElementBytes element) = Push (values.Int (pos (element_size element)))
inserted_instruction (Record counter) = call_of (slice_get accounter_methods (place counter))

-- the instruction with other targets
abbrev pub retargeted : (ℕ → ℕ) → Instruction → Instruction
retargeted to (Branch test target) = Branch test (to target)
retargeted to (Goto target) = Goto (to target)
retargeted to (Switch pairs default) = Switch (map (λ pair. (pair.0, to pair.1)) pairs) (to default)
retargeted to i = i

abbrev pub own_instruction : (ℕ → ℕ) → Own → Instruction → Instruction
own_instruction to Kept i = retargeted to i
own_instruction to Popped i = Move Pop

abbrev pub range_pieces : List Group → Range → List Range
range_pieces gs range =
    map (λ (p : ℕ × ℕ). record range { start = p.0; end = p.1; handler = start gs range.handler }) (pieces gs range.start range.end)

-- code in groups
unfoldable pub in_groups : List Group → Code → Code
in_groups gs code = record {
  max_stack = code.max_stack + 2;
  max_locals = code.max_locals;
  instructions = regrouped inserted_instruction (own_instruction (start gs)) gs code.instructions;
  ranges = flat_map (range_pieces gs) code.ranges;
  frames = option_map (map (moved_frame (starts gs) (owns gs))) code.frames;
}

-- code with other names, in groups
unfoldable pub rewritten_code : Program → Code → Code
rewritten_code program code = in_groups (groups_of program code) (code_map in_sandbox code)

-- the accounter and the class of the object that stops a run come first, since their names do
unfoldable pub rewritten : Program → Program
rewritten program =
    library_class (below_object accounter_class accounter_methods) ∷ library_class (below_object stop_class [])
    ∷ program_map in_sandbox (rewritten_code program) program
