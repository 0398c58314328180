pub mod InWorlds
