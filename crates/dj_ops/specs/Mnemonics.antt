-- The opcodes of instructions by their mnemonics (JVMS 6.5), for facts and small programs.
use Rattle.std.specs.Prelude.{ℕ}

abbrev pub nop : ℕ
nop = 0

abbrev pub aconst_null : ℕ
aconst_null = 1

abbrev pub iconst_m1 : ℕ
iconst_m1 = 2

abbrev pub iconst_0 : ℕ
iconst_0 = 3

abbrev pub iconst_1 : ℕ
iconst_1 = 4

abbrev pub iconst_2 : ℕ
iconst_2 = 5

abbrev pub iconst_3 : ℕ
iconst_3 = 6

abbrev pub iconst_4 : ℕ
iconst_4 = 7

abbrev pub iconst_5 : ℕ
iconst_5 = 8

abbrev pub lconst_0 : ℕ
lconst_0 = 9

abbrev pub lconst_1 : ℕ
lconst_1 = 10

abbrev pub fconst_0 : ℕ
fconst_0 = 11

abbrev pub fconst_1 : ℕ
fconst_1 = 12

abbrev pub fconst_2 : ℕ
fconst_2 = 13

abbrev pub dconst_0 : ℕ
dconst_0 = 14

abbrev pub dconst_1 : ℕ
dconst_1 = 15

abbrev pub bipush : ℕ
bipush = 16

abbrev pub sipush : ℕ
sipush = 17

abbrev pub ldc : ℕ
ldc = 18

abbrev pub ldc_w : ℕ
ldc_w = 19

abbrev pub ldc2_w : ℕ
ldc2_w = 20

abbrev pub iload : ℕ
iload = 21

abbrev pub lload : ℕ
lload = 22

abbrev pub fload : ℕ
fload = 23

abbrev pub dload : ℕ
dload = 24

abbrev pub aload : ℕ
aload = 25

abbrev pub iload_0 : ℕ
iload_0 = 26

abbrev pub iload_1 : ℕ
iload_1 = 27

abbrev pub iload_2 : ℕ
iload_2 = 28

abbrev pub iload_3 : ℕ
iload_3 = 29

abbrev pub lload_0 : ℕ
lload_0 = 30

abbrev pub lload_1 : ℕ
lload_1 = 31

abbrev pub lload_2 : ℕ
lload_2 = 32

abbrev pub lload_3 : ℕ
lload_3 = 33

abbrev pub fload_0 : ℕ
fload_0 = 34

abbrev pub fload_1 : ℕ
fload_1 = 35

abbrev pub fload_2 : ℕ
fload_2 = 36

abbrev pub fload_3 : ℕ
fload_3 = 37

abbrev pub dload_0 : ℕ
dload_0 = 38

abbrev pub dload_1 : ℕ
dload_1 = 39

abbrev pub dload_2 : ℕ
dload_2 = 40

abbrev pub dload_3 : ℕ
dload_3 = 41

abbrev pub aload_0 : ℕ
aload_0 = 42

abbrev pub aload_1 : ℕ
aload_1 = 43

abbrev pub aload_2 : ℕ
aload_2 = 44

abbrev pub aload_3 : ℕ
aload_3 = 45

abbrev pub iaload : ℕ
iaload = 46

abbrev pub laload : ℕ
laload = 47

abbrev pub faload : ℕ
faload = 48

abbrev pub daload : ℕ
daload = 49

abbrev pub aaload : ℕ
aaload = 50

abbrev pub baload : ℕ
baload = 51

abbrev pub caload : ℕ
caload = 52

abbrev pub saload : ℕ
saload = 53

abbrev pub istore : ℕ
istore = 54

abbrev pub lstore : ℕ
lstore = 55

abbrev pub fstore : ℕ
fstore = 56

abbrev pub dstore : ℕ
dstore = 57

abbrev pub astore : ℕ
astore = 58

abbrev pub istore_0 : ℕ
istore_0 = 59

abbrev pub istore_1 : ℕ
istore_1 = 60

abbrev pub istore_2 : ℕ
istore_2 = 61

abbrev pub istore_3 : ℕ
istore_3 = 62

abbrev pub lstore_0 : ℕ
lstore_0 = 63

abbrev pub lstore_1 : ℕ
lstore_1 = 64

abbrev pub lstore_2 : ℕ
lstore_2 = 65

abbrev pub lstore_3 : ℕ
lstore_3 = 66

abbrev pub fstore_0 : ℕ
fstore_0 = 67

abbrev pub fstore_1 : ℕ
fstore_1 = 68

abbrev pub fstore_2 : ℕ
fstore_2 = 69

abbrev pub fstore_3 : ℕ
fstore_3 = 70

abbrev pub dstore_0 : ℕ
dstore_0 = 71

abbrev pub dstore_1 : ℕ
dstore_1 = 72

abbrev pub dstore_2 : ℕ
dstore_2 = 73

abbrev pub dstore_3 : ℕ
dstore_3 = 74

abbrev pub astore_0 : ℕ
astore_0 = 75

abbrev pub astore_1 : ℕ
astore_1 = 76

abbrev pub astore_2 : ℕ
astore_2 = 77

abbrev pub astore_3 : ℕ
astore_3 = 78

abbrev pub iastore : ℕ
iastore = 79

abbrev pub lastore : ℕ
lastore = 80

abbrev pub fastore : ℕ
fastore = 81

abbrev pub dastore : ℕ
dastore = 82

abbrev pub aastore : ℕ
aastore = 83

abbrev pub bastore : ℕ
bastore = 84

abbrev pub castore : ℕ
castore = 85

abbrev pub sastore : ℕ
sastore = 86

abbrev pub pop : ℕ
pop = 87

abbrev pub pop2 : ℕ
pop2 = 88

abbrev pub dup : ℕ
dup = 89

abbrev pub dup_x1 : ℕ
dup_x1 = 90

abbrev pub dup_x2 : ℕ
dup_x2 = 91

abbrev pub dup2 : ℕ
dup2 = 92

abbrev pub dup2_x1 : ℕ
dup2_x1 = 93

abbrev pub dup2_x2 : ℕ
dup2_x2 = 94

abbrev pub swap : ℕ
swap = 95

abbrev pub iadd : ℕ
iadd = 96

abbrev pub ladd : ℕ
ladd = 97

abbrev pub fadd : ℕ
fadd = 98

abbrev pub dadd : ℕ
dadd = 99

abbrev pub isub : ℕ
isub = 100

abbrev pub lsub : ℕ
lsub = 101

abbrev pub fsub : ℕ
fsub = 102

abbrev pub dsub : ℕ
dsub = 103

abbrev pub imul : ℕ
imul = 104

abbrev pub lmul : ℕ
lmul = 105

abbrev pub fmul : ℕ
fmul = 106

abbrev pub dmul : ℕ
dmul = 107

abbrev pub idiv : ℕ
idiv = 108

abbrev pub ldiv : ℕ
ldiv = 109

abbrev pub fdiv : ℕ
fdiv = 110

abbrev pub ddiv : ℕ
ddiv = 111

abbrev pub irem : ℕ
irem = 112

abbrev pub lrem : ℕ
lrem = 113

abbrev pub frem : ℕ
frem = 114

abbrev pub drem : ℕ
drem = 115

abbrev pub ineg : ℕ
ineg = 116

abbrev pub lneg : ℕ
lneg = 117

abbrev pub fneg : ℕ
fneg = 118

abbrev pub dneg : ℕ
dneg = 119

abbrev pub ishl : ℕ
ishl = 120

abbrev pub lshl : ℕ
lshl = 121

abbrev pub ishr : ℕ
ishr = 122

abbrev pub lshr : ℕ
lshr = 123

abbrev pub iushr : ℕ
iushr = 124

abbrev pub lushr : ℕ
lushr = 125

abbrev pub iand : ℕ
iand = 126

abbrev pub land : ℕ
land = 127

abbrev pub ior : ℕ
ior = 128

abbrev pub lor : ℕ
lor = 129

abbrev pub ixor : ℕ
ixor = 130

abbrev pub lxor : ℕ
lxor = 131

abbrev pub iinc : ℕ
iinc = 132

abbrev pub i2l : ℕ
i2l = 133

abbrev pub i2f : ℕ
i2f = 134

abbrev pub i2d : ℕ
i2d = 135

abbrev pub l2i : ℕ
l2i = 136

abbrev pub l2f : ℕ
l2f = 137

abbrev pub l2d : ℕ
l2d = 138

abbrev pub f2i : ℕ
f2i = 139

abbrev pub f2l : ℕ
f2l = 140

abbrev pub f2d : ℕ
f2d = 141

abbrev pub d2i : ℕ
d2i = 142

abbrev pub d2l : ℕ
d2l = 143

abbrev pub d2f : ℕ
d2f = 144

abbrev pub i2b : ℕ
i2b = 145

abbrev pub i2c : ℕ
i2c = 146

abbrev pub i2s : ℕ
i2s = 147

abbrev pub lcmp : ℕ
lcmp = 148

abbrev pub fcmpl : ℕ
fcmpl = 149

abbrev pub fcmpg : ℕ
fcmpg = 150

abbrev pub dcmpl : ℕ
dcmpl = 151

abbrev pub dcmpg : ℕ
dcmpg = 152

abbrev pub ifeq : ℕ
ifeq = 153

abbrev pub ifne : ℕ
ifne = 154

abbrev pub iflt : ℕ
iflt = 155

abbrev pub ifge : ℕ
ifge = 156

abbrev pub ifgt : ℕ
ifgt = 157

abbrev pub ifle : ℕ
ifle = 158

abbrev pub if_icmpeq : ℕ
if_icmpeq = 159

abbrev pub if_icmpne : ℕ
if_icmpne = 160

abbrev pub if_icmplt : ℕ
if_icmplt = 161

abbrev pub if_icmpge : ℕ
if_icmpge = 162

abbrev pub if_icmpgt : ℕ
if_icmpgt = 163

abbrev pub if_icmple : ℕ
if_icmple = 164

abbrev pub if_acmpeq : ℕ
if_acmpeq = 165

abbrev pub if_acmpne : ℕ
if_acmpne = 166

abbrev pub goto : ℕ
goto = 167

abbrev pub jsr : ℕ
jsr = 168

abbrev pub ret : ℕ
ret = 169

abbrev pub tableswitch : ℕ
tableswitch = 170

abbrev pub lookupswitch : ℕ
lookupswitch = 171

abbrev pub ireturn : ℕ
ireturn = 172

abbrev pub lreturn : ℕ
lreturn = 173

abbrev pub freturn : ℕ
freturn = 174

abbrev pub dreturn : ℕ
dreturn = 175

abbrev pub areturn : ℕ
areturn = 176

abbrev pub return : ℕ
return = 177

abbrev pub getstatic : ℕ
getstatic = 178

abbrev pub putstatic : ℕ
putstatic = 179

abbrev pub getfield : ℕ
getfield = 180

abbrev pub putfield : ℕ
putfield = 181

abbrev pub invokevirtual : ℕ
invokevirtual = 182

abbrev pub invokespecial : ℕ
invokespecial = 183

abbrev pub invokestatic : ℕ
invokestatic = 184

abbrev pub invokeinterface : ℕ
invokeinterface = 185

abbrev pub invokedynamic : ℕ
invokedynamic = 186

abbrev pub new : ℕ
new = 187

abbrev pub newarray : ℕ
newarray = 188

abbrev pub anewarray : ℕ
anewarray = 189

abbrev pub arraylength : ℕ
arraylength = 190

abbrev pub athrow : ℕ
athrow = 191

abbrev pub checkcast : ℕ
checkcast = 192

abbrev pub instanceof : ℕ
instanceof = 193

abbrev pub monitorenter : ℕ
monitorenter = 194

abbrev pub monitorexit : ℕ
monitorexit = 195

abbrev pub wide : ℕ
wide = 196

abbrev pub multianewarray : ℕ
multianewarray = 197

abbrev pub ifnull : ℕ
ifnull = 198

abbrev pub ifnonnull : ℕ
ifnonnull = 199

abbrev pub goto_w : ℕ
goto_w = 200

abbrev pub jsr_w : ℕ
jsr_w = 201

abbrev pub breakpoint : ℕ
breakpoint = 202
