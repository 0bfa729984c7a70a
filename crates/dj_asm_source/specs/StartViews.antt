-- What the code's first words show.
use Rattle.std.specs.Prelude.{◌≡◌, Bool, List, [], ◌∷◌, Option, Some, None, if◌then◌else◌}
use Rattle.dj_asm_source.specs.declared.constant.ValueWord.{ValueWord}
use Rattle.dj_asm_source.specs.declared.constant.ValueWord.TheVariants as value_words
use Rattle.dj_asm_source.specs.declared.constant.LiteralWord.{LiteralWord}
use Rattle.dj_asm_source.specs.declared.constant.LiteralWord.TheVariants as literal_words
use Rattle.dj_asm_source.specs.declared.frame.FrameWord.{FrameWord}
use Rattle.dj_asm_source.specs.declared.frame.FrameWord.TheVariants as frame_words
use Rattle.dj_asm_source.specs.declared.frame.TypesEnd.{TypesEnd}
use Rattle.dj_asm_source.specs.declared.frame.TypesEnd.TheVariants as type_ends
use Rattle.dj_asm_tokens.specs.trusted.Words.{Token, Placed}
use Rattle.dj_asm_source.specs.LineReading.{FrameStart, SameWord, StackWord, ChopWord, AppendWord, FullWord, is_slash, is_end, ValueStart, IntWord, LongWord, StringWord, LiteralStart, IntLiteralWord, StringLiteralWord, ClassLiteralWord}

abbrev pub value_word_view : ValueWord → ValueStart
value_word_view value_words.Int = IntWord
value_word_view value_words.Long = LongWord
value_word_view value_words.String = StringWord

abbrev pub literal_word_view : LiteralWord → LiteralStart
literal_word_view literal_words.Int = IntLiteralWord
literal_word_view literal_words.String = StringLiteralWord
literal_word_view literal_words.Class = ClassLiteralWord

abbrev pub frame_word_view : FrameWord → FrameStart
frame_word_view frame_words.Same = SameWord
frame_word_view frame_words.Stack1 = StackWord
frame_word_view frame_words.Chop = ChopWord
frame_word_view frame_words.Append = AppendWord
frame_word_view frame_words.Full = FullWord

abbrev pub ends_types : TypesEnd → Token → Bool
ends_types type_ends.Slash = is_slash
ends_types type_ends.LineEnd = is_end

-- what follows the first token, where that ends the types
abbrev pub AfterEnd : (Token → Bool) → List Placed → Option (List Placed) → Type 0
AfterEnd ends [] after = after ≡ None
AfterEnd ends (here ∷ rest) after = after ≡ (if ends here.token then Some rest else None)
