-- What an attribute's view shows.
use Rattle.dj_class.specs.declared.class.Attribute.{Attribute}
use Rattle.dj_class.specs.trusted.ClassFile.{AttributeInfo}

abbrev pub attribute_of : Attribute → AttributeInfo
attribute_of a = record { name = a.name; body = a.body.now }
