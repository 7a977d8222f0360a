-- Small examples of the rules, computed. Assumes nothing.
use Rattle.std.specs.Prelude.{◌≡◌, refl, true, false}
use Rattle.message_rules.specs.Rules.{foreign, needed, optional, roles_of, role_of, lengths_of, length_in, length_ok}

-- in a Source Ready an RTSP Port is needed, a Friendly Name may be absent, and a Security Token is foreign; so is any TLV to command 7
pub roles_of_source_ready : (role_of 1 2 ≡ needed) × (role_of 1 0 ≡ optional) × (role_of 1 4 ≡ foreign) × (role_of 7 3 ≡ foreign)
unfolding roles_of role_of
roles_of_source_ready = (refl, refl, refl, refl)

-- the lengths of a Friendly Name, the even numbers from 2 to 520; of a type that there is not, none
pub lengths_of_name
    : (lengths_of 0 ≡ (2, 520, 2)) × (length_ok 0 0 ≡ false) × (length_ok 0 2 ≡ true) × (length_ok 0 3 ≡ false) × (length_ok 0 520 ≡ true)
    × (length_ok 0 522 ≡ false) × (length_ok 1 1 ≡ false)
unfolding lengths_of length_in length_ok
lengths_of_name = (refl, refl, refl, refl, refl, refl, refl)
