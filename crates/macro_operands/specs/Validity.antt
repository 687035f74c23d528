-- Which forms can be written, as the code tests it.
use Rattle.std.specs.Prelude.{Bool, true, false, not, ◌&&◌, Option, Some, None, is_some}
use Rattle.operand_texts.specs.Written.{Written, Target, in_name, in_register}
use Rattle.macro_operands.specs.Requests.{WrittenLength, fixed, between, is_fixed, is_register_0, is_named}
use Rattle.vsm_model.specs.declared.causes.Family.{Family}
use Rattle.vsm_model.specs.declared.causes.Family.TheVariants as family
use Rattle.vsm_model.specs.declared.services.Boundary.{Boundary}
use Rattle.vsm_model.specs.declared.services.Boundary.TheVariants.{Doubleword, Page}
use Rattle.vsm_model.specs.declared.services.Location.{Location}
use Rattle.vsm_model.specs.declared.services.Location.TheVariants.{Low, Either, Caller}

abbrev pub is_register_length : WrittenLength → Bool
is_register_length (fixed value) = not (is_register_0 value)
is_register_length (between maximum minimum) = false

abbrev pub is_doubleword : Boundary → Bool
is_doubleword Doubleword = true
is_doubleword Page = false

abbrev pub is_low : Location → Bool
is_low Low = true
is_low Either = false
is_low Caller = false

abbrev pub is_named_target : Option Target → Bool
is_named_target None = false
is_named_target (Some (in_name name)) = true
is_named_target (Some (in_register n)) = false

abbrev pub is_register_obtain : WrittenLength → Option Target → Boundary → Location → Bool → Bool
is_register_obtain length target boundary location conditional =
    is_register_length length && not (is_some target) && is_doubleword boundary && is_low location && not conditional

abbrev pub is_named_obtain : WrittenLength → Option Target → Location → Bool
is_named_obtain length target location = is_fixed length && is_named_target target && is_low location

abbrev pub is_obtain_form : Family → WrittenLength → Option Target → Boundary → Location → Bool → Bool
is_obtain_form family.S length target boundary location conditional = true
is_obtain_form family.R length target boundary location conditional =
    is_register_obtain length target boundary location conditional
is_obtain_form family.E length target boundary location conditional = is_named_obtain length target location

abbrev pub is_release_form : Family → Written → Written → Bool → Bool
is_release_form family.S length address conditional = true
is_release_form family.R length address conditional = not (is_register_0 length) && not conditional
is_release_form family.E length address conditional = is_named address

abbrev pub is_whole_form : Family → Bool → Bool
is_whole_form family.S conditional = true
is_whole_form family.R conditional = not conditional
is_whole_form family.E conditional = false
