pub mod OneCharacterLaws
