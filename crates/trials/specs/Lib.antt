-- The checks (Checked); the beliefs of a bale tallied (Tally), a bale (Bale), the bales of a setting (Setting), the settings (Each), the call (Called).
pub mod Tally
pub mod Bale
pub mod Setting
pub mod Each
pub mod Checked
pub mod Called
