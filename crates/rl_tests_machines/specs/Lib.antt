pub mod OneCharacter
