mod Words
pub mod EndsGo
pub mod HostsDo
pub mod HostsHear
pub mod MemoriesKeep
pub mod SitesKept
pub mod ControllersHear
pub mod ControllersStep
pub mod FewInWorlds
pub mod CountsStay
pub mod LinesGo
pub mod HostsInWorlds
pub mod WorldsTick
pub mod WorldsBehind
pub mod RoundsGo
pub mod WorldsStepped
pub mod LinksRest
pub mod LegalPlays
