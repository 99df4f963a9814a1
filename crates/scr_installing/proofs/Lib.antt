mod Allowing
mod DocumentDrafts
mod FewerLevels
mod IdleBundles
mod Installs
mod LevelsAre
mod RestingBundles
mod Updates
