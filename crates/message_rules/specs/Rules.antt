-- Which TLVs a command has, and how long each may be: one table each, for reader, writer and definitions alike. Assumes nothing.
use Rattle.std.specs.Prelude.{ℕ, ◌%◌, List, [], ◌∷◌, Bool, ◌&&◌, get_or, leb, eqb}
use denote.Enum.Bare.{sameb}
use Rattle.message_rules.specs.contracts.role.Role.{the_type}
use Rattle.message_rules.specs.declared.role.Role.{Role}
use Rattle.message_rules.specs.declared.role.Role.TheVariants as role

-- What a TLV type is to a command: foreign to it, needed, or it may be absent.
abbrev pub foreign : Role
foreign = role.Foreign

abbrev pub needed : Role
needed = role.Needed

abbrev pub optional : Role
optional = role.Optional

-- `==` on roles
abbrev pub same_role : Role → Role → Bool
same_role = sameb the_type

-- The roles of the types in no command.
abbrev pub no_roles : List Role
no_roles = foreign ∷ foreign ∷ foreign ∷ foreign ∷ foreign ∷ foreign ∷ foreign ∷ foreign ∷ []

-- 01, "Connection message", and 001 sections 2.2.1 to 2.2.6: a row for each command, a column for each TLV type: 0 Friendly Name, 1 no such
-- type, 2 RTSP Port, 3 Source ID, 4 Security Token, 5 Security Options, 6 PIN Challenge, 7 PIN Response Reason.
abbrev pub roles : List (List Role)
roles =
    -- 0: no such command
    no_roles ∷
    -- 1 Source Ready
    (optional ∷ foreign ∷ needed ∷ needed ∷ foreign ∷ foreign ∷ foreign ∷ foreign ∷ []) ∷
    -- 2 Stop Projection
    (needed ∷ foreign ∷ foreign ∷ needed ∷ foreign ∷ foreign ∷ foreign ∷ foreign ∷ []) ∷
    -- 3 Security Handshake
    (foreign ∷ foreign ∷ foreign ∷ optional ∷ needed ∷ foreign ∷ foreign ∷ foreign ∷ []) ∷
    -- 4 Session Request
    (needed ∷ foreign ∷ foreign ∷ needed ∷ foreign ∷ needed ∷ foreign ∷ foreign ∷ []) ∷
    -- 5 PIN Challenge
    (foreign ∷ foreign ∷ foreign ∷ needed ∷ foreign ∷ foreign ∷ needed ∷ foreign ∷ []) ∷
    -- 6 PIN Response
    (foreign ∷ foreign ∷ foreign ∷ needed ∷ foreign ∷ foreign ∷ needed ∷ needed ∷ []) ∷ []

unfoldable pub roles_of : ℕ → List Role
roles_of c = get_or roles c no_roles

-- what type t is to command c; a type or a command that the table doesn't have is foreign
unfoldable pub role_of : ℕ → ℕ → Role
role_of c t = get_or (roles_of c) t foreign

unfoldable pub known_command : ℕ → Bool
known_command c = leb 1 c && leb c 6

-- The lengths that a value may have are three numbers: the least, the greatest, and what they are multiples of.

abbrev pub no_lengths : ℕ × ℕ × ℕ
no_lengths = (1, 0, 1)

-- 01, "TLV types", and 001 section 2.2.7, by which every value has a byte or more: a row for each type.
abbrev pub lengths : List (ℕ × ℕ × ℕ)
lengths =
    -- 0 Friendly Name: an even number of bytes up to 520
    (2, 520, 2) ∷
    -- 1: no such type, so no length
    no_lengths ∷
    -- 2 RTSP Port: 2
    (2, 2, 1) ∷
    -- 3 Source ID: 16
    (16, 16, 1) ∷
    -- 4 Security Token: any length that the two bytes of Length hold
    (1, 65535, 1) ∷
    -- 5 Security Options: 1, and further bytes are kept (001 2.2.7.5)
    (1, 65535, 1) ∷
    -- 6 PIN Challenge: variable (001 2.2.7.6)
    (1, 65535, 1) ∷
    -- 7 PIN Response Reason: 1
    (1, 1, 1) ∷ []

-- a type that the table doesn't have has no length
unfoldable pub lengths_of : ℕ → ℕ × ℕ × ℕ
lengths_of t = get_or lengths t no_lengths

-- n is one of these lengths
unfoldable pub length_in : ℕ × ℕ × ℕ → ℕ → Bool
length_in l n = leb l.0 n && (leb n l.1 && eqb (n % l.2) 0)

-- a value of type t may be n bytes long
unfoldable pub length_ok : ℕ → ℕ → Bool
length_ok t n = length_in (lengths_of t) n
