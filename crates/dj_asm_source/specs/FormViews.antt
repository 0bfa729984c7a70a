-- What the code's forms show.
use Rattle.dj_ops.specs.trusted.Forms.{OperandForm, Bare, SignedByte, SignedShort, ShortLiteral, LongLiteral, Slot, SlotAndByte, ShortOffset, LongOffset, MemberIndex, InterfaceIndex, DynamicIndex, ClassIndex, ArrayType, MultiIndex, TableSwitch, LookupSwitch, WidePrefix, Reserved}
use Rattle.dj_asm_source.specs.declared.form.Form as the_form
use Rattle.dj_asm_source.specs.declared.form.Form.TheVariants as forms

abbrev pub form_view : the_form.Form → OperandForm
form_view forms.Bare = Bare
form_view forms.SignedByte = SignedByte
form_view forms.SignedShort = SignedShort
form_view forms.ShortLiteral = ShortLiteral
form_view forms.LongLiteral = LongLiteral
form_view forms.Slot = Slot
form_view forms.SlotAndByte = SlotAndByte
form_view forms.ShortOffset = ShortOffset
form_view forms.LongOffset = LongOffset
form_view forms.MemberIndex = MemberIndex
form_view forms.InterfaceIndex = InterfaceIndex
form_view forms.DynamicIndex = DynamicIndex
form_view forms.ClassIndex = ClassIndex
form_view forms.ArrayType = ArrayType
form_view forms.MultiIndex = MultiIndex
form_view forms.TableSwitch = TableSwitch
form_view forms.LookupSwitch = LookupSwitch
form_view forms.WidePrefix = WidePrefix
form_view forms.Reserved = Reserved
