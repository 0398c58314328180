-- The registry of the administration gate (ETSI TS 102 622, sections 4.5 and 7.1): what a host controller keeps of it for each host.
use Rattle.std.specs.Prelude.{ℕ, ◌+◌, ◌*◌, ◌/◌, Bool, not, ◌&&◌, ◌||◌, ◌==◌, nat_le, if◌then◌else◌, IsTrue, List, [], length, replicate}
use Rattle.std.specs.List.{filter, list_all, AllByRecursion}
use Rattle.std.specs.Option.{option_map_or}
use Rattle.sorted_rows.specs.Rows.{AreRows, row_of, with_row, without_row}
use Rattle.registry.specs.declared.value.RegValue.{RegValue}

-- Two parameters are kept for each host, SESSION_IDENTITY 01 and WHITELIST 03, both of gate 00.
abbrev pub is_kept : ℕ → ℕ → ℕ → Bool
is_kept host gate param = nat_le 1 host && nat_le host 7 && gate == 0 && (param == 1 || param == 3)

-- SESSION_IDENTITY is FF eight times where none was set, and WHITELIST is empty
abbrev pub default_of : ℕ → List ℕ
default_of param = if param == 1 then replicate 8 255 else []

abbrev pub is_default : ℕ → List ℕ → Bool
is_default param value = if param == 1 then length value == 8 && list_all (λ byte. byte == 255) value else length value == 0

-- the place of a kept parameter: by host, and then by parameter
abbrev pub value_place : ℕ → ℕ → ℕ
value_place host param = 2 * host + param / 2

abbrev pub place_of_value : RegValue → ℕ
place_of_value v = value_place v.host v.param

-- A value that may stand in a registry: its parameter is one of those that are kept, and it isn't its default.
abbrev pub IsPresent : RegValue → Type 0
IsPresent v = IsTrue (is_kept v.host v.gate v.param && not (is_default v.param v.value.items))

-- a finite map from (host, gate, parameter) to bytes, as the list of its values in their places
pub record AreValues (values : List RegValue) : Type 0 where
  pub sorted : AreRows place_of_value 2 16 values
  pub present : AllByRecursion IsPresent values

-- what a parameter reads as: its default where it is absent
abbrev pub value_at : List RegValue → ℕ → ℕ → ℕ → List ℕ
value_at values host gate param = option_map_or (λ (v : RegValue). v.value.items) (row_of place_of_value (value_place host param) values) (default_of param)

-- the registry where a parameter is set: a value equal to its default is absent
abbrev pub with_value : List RegValue → ℕ → ℕ → ℕ → List ℕ → List RegValue
with_value values host gate param value =
    if is_default param value then without_row place_of_value (value_place host param) values
    else with_row place_of_value (record { host = host; gate = gate; param = param; value = record { items = value } }) values

-- the registry where all parameters of a host are at their defaults
abbrev pub values_without_host : List RegValue → ℕ → List RegValue
values_without_host values host = filter (λ v. not (v.host == host)) values
